-- Types by numbers that are told up to a bound.
use Rattle.std.proofs.Common.{◌≡◌, ℕ, ◌<◌, ◌≤◌, List, length, min, refl, sym, ap, ◌∙◌, arith, ◌⊎◌, inl, inr}
use Rattle.std.proofs.lemmas.Bool.{cases_lt}
use Rattle.std.proofs.lemmas.Option.{slice_get_past}
use Rattle.wasm_lang.specs.Modules.{FunctionType}
use Rattle.wasm_lang.specs.Limits.{params_of}

no_type : (types : List FunctionType) (n : ℕ) → length types ≤ n → params_of types n ≡ 0
no_type types n h = rw (slice_get_past types n h) refl

pub params_capped : (types : List FunctionType) (n cap : ℕ) → length types ≤ cap → params_of types (min n cap) ≡ params_of types n
params_capped types n cap h = by (cases_lt cap n)
  where
    by : (cap < n) ⊎ (n ≤ cap) → params_of types (min n cap) ≡ params_of types n
    by (inl lt) = no_type types (min n cap) (omega arith) ∙ sym (no_type types n (omega arith))
    by (inr le) = ap (params_of types) (let e : min n cap ≡ n = omega arith in e)
