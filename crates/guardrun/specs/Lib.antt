pub mod Spoke
pub mod Printed
pub mod Worked
