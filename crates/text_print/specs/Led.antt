-- Every record in a file's order, each step led by words of its own.
use Rattle.std.specs.Prelude.{ℕ, zero, suc, ◌+◌, ◌*◌, ◌/◌, [], ◌++◌, length, take, drop}
use Rattle.spec_policy.specs.Bytes.{Bytes}
use Rattle.spec_text.specs.Forms.{node, step, size}
use Rattle.spec_text.specs.Printing.{shown_record, steps_had}

-- n steps from number j in their leaf on, each led by what is given for it; i is the number of the first over the whole file
unfoldable pub led_steps : (ℕ → Bytes) → (n j i : ℕ) → Bytes → Bytes
led_steps lead zero j i ss = []
led_steps lead (suc n) j i ss = lead i ++ (shown_record step j (take (size step) ss) ++ led_steps lead n (suc j) (suc i) (drop (size step) ss))

-- n nodes from number i on, each with its steps; j is the number of the first of the steps over the whole file
unfoldable pub led_nodes : (ℕ → Bytes) → (n i j : ℕ) → Bytes → Bytes → Bytes
led_nodes lead zero i j ns ss = []
led_nodes lead (suc n) i j ns ss =
    let x = take (size node) ns in
    let k = steps_had x ss in
    shown_record node i x ++ (led_steps lead k 0 j ss ++ led_nodes lead n (suc i) (j + k) (drop (size node) ns) (drop (size step * k) ss))

-- the nodes in the file's order, with their steps
unfoldable pub led_records : (ℕ → Bytes) → Bytes → Bytes → Bytes
led_records lead ns ss = led_nodes lead (length ns / size node) 0 0 ns ss

-- how many of the steps n nodes have
unfoldable pub steps_owned : ℕ → Bytes → Bytes → ℕ
steps_owned zero ns ss = 0
steps_owned (suc n) ns ss = let k = steps_had (take (size node) ns) ss in k + steps_owned n (drop (size node) ns) (drop (size step * k) ss)
