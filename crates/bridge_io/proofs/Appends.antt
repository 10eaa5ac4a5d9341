-- What a sink holds after writes, one behind another.
use Rattle.std.proofs.Common.{◌≡◌, ℕ, ◌+◌, ◌-◌, List, ◌++◌, length, take, drop, Option, Some, None, refl, append_assoc}
use Rattle.std.proofs.Math.Seq.{take-add}
use Rattle.std.proofs.lemmas.List.{take_rest}
use Rattle.bridge_io.specs.Outside.{appended}

-- two appends are one
pub appended-appended : (told : Option (List ℕ)) (xs ys : List ℕ) → appended (appended told xs) ys ≡ appended told (xs ++ ys)
appended-appended None xs ys = refl
appended-appended (Some before) xs ys = rw (append_assoc before xs ys) refl

-- the front that was written grows by what the next write took of the rest
pub appended-front : (told : Option (List ℕ)) (done n : ℕ) (bytes : List ℕ) →
    appended (appended told (take done bytes)) (take n (take (length bytes - done) (drop done bytes)))
    ≡ appended told (take (done + n) bytes)
appended-front told done n bytes =
    rw (take_rest bytes done, appended-appended told (take done bytes) (take n (drop done bytes)), take-add done n bytes) refl
