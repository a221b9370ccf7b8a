-- What the code's answer says of the output that it was lent.
use Rattle.std.specs.Prelude.{ℕ, ◌≤◌, ◌≡◌, length, take}
use Rattle.spec_policy.specs.Bytes.{Bytes}
use Rattle.guardwrite.specs.Said.{Said, file, message}
use Rattle.guardwrite.specs.declared.told.Told.{Told}
use Rattle.guardwrite.specs.declared.told.Told.TheVariants.{File, Message}

unfoldable pub said_by : Told → Bytes → Said
said_by (File n) out = file (take n out)
said_by (Message n) out = message (take n out)

unfoldable pub end_of : Told → ℕ
end_of (File n) = n
end_of (Message n) = n

-- The answer's case and the bytes at the start of the output are what is told.
pub record Telling (out : Bytes) (r : Told) (what : Said) : Type 0 where
  pub says : said_by r out ≡ what
  pub inside : end_of r ≤ length out
