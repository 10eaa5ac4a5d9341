-- Parameters and locals that have no ids.
use Rattle.std.proofs.Common.{◌≡◌, ℕ, zero, suc, ◌+◌, ◌≤◌, Bool, true, false, List, [], ◌∷◌, ◌++◌, replicate, Option, Some, None, refl, sym, ap, ◌∙◌, arith}
use Rattle.std.specs.Prelude.{◌==◌, if◌then◌else◌, SomeIff, IfSome}
use Rattle.wat_lang.specs.declared.parts.Space.TheVariants as spaces
use Rattle.wat_lang.specs.declared.parts.Part.{Part}
use Rattle.wat_lang.specs.declared.parts.Part.TheVariants.{Local}
use Rattle.wat_lang.specs.Tokens.{Token}
use Rattle.wat_lang.specs.Grammar.{Mark, binds, Marked, marked}
use Rattle.wat_lang.specs.Names.{Names, binds_in, types_part, place_of_id, id_after, written_ids, param_ids, local_names}
use Rattle.wat_read_tokens.specs.Marks.{only}
use Rattle.wat_read_names.specs.declared.heads.Counts.{Counts}
use Rattle.wat_read_names.specs.Counted.{HasCounts}
use Rattle.wat_read_names.proofs.Places.{not_0, behind_none, written_front}

-- ---- one token

no_id : (t : Token) (k : Mark) → binds_in spaces.Local k ≡ false → id_after None (marked k t) ≡ None
no_id t (binds spaces.Local) h = absurd cc
no_id t (binds spaces.Type) h = refl
no_id t (binds spaces.Func) h = refl
no_id t (binds spaces.Table) h = refl
no_id t (binds spaces.Memory) h = refl
no_id t (binds spaces.Global) h = refl
no_id t (binds spaces.Label) h = refl
no_id t (binds spaces.Elem) h = refl
no_id t (binds spaces.Data) h = refl
no_id t k h = refl

pub unnamed_front : (p : Part) (m : Marked) (ms : List Marked) → binds_in spaces.Local m.mark ≡ false → written_ids p None (m ∷ ms) ≡ only (types_part p m.mark) None ++ written_ids p None ms
unnamed_front p m ms h = written_front p None m ms ∙ ap (λ (id : Option (List ℕ)). only (types_part p m.mark) None ++ written_ids p id ms) (no_id m.token m.mark h)

joined : (n k : ℕ) → (let xs : Names = replicate (n + k) None in xs) ≡ replicate n None ++ replicate k None
joined zero k = ap (λ (j : ℕ). let xs : Names = replicate j None in xs) (let q : zero + k ≡ k = omega arith in q)
joined (suc n) k = ap (λ (j : ℕ). let xs : Names = replicate j None in xs) (let q : suc n + k ≡ suc (n + k) = omega arith in q) ∙ ap (λ (xs : Names). None ∷ xs) (joined n k)

once : (b : Bool) → (let xs : Names = replicate (if b then 1 else 0) None in xs) ≡ only b None
once true = refl
once false = refl

pub one_more : (b : Bool) (n k : ℕ) → k ≡ (if b then 1 else 0) → (let xs : Names = replicate (n + k) None in xs) ≡ replicate n None ++ only b None
one_more b n k e = joined n k ∙ ap (λ (xs : Names). replicate n None ++ xs) (ap (λ (j : ℕ). let xs : Names = replicate j None in xs) e ∙ once b)

pub at_most_one : (b : Bool) (k : ℕ) → k ≡ (if b then 1 else 0) → k ≤ 1
at_most_one true k e = omega (arith, e)
at_most_one false k e = omega (arith, e)

-- ---- all of them

pub sum_of : (r : Option ℕ) (P : Type 0) (n : ℕ) → SomeIff r P n → IfSome r (λ m. m ≡ n)
sum_of None P n h = tt
sum_of (Some m) P n h = h.1

params_of_count : (params n : ℕ) → param_ids params (replicate n None) ≡ replicate (if n == 0 then params else n) None
params_of_count params zero = refl
params_of_count params (suc n) = ap (λ (b : Bool). let xs : Names = replicate (if b then params else suc n) None in xs) (sym (not_0 n))

pub none_named : (params sum : ℕ) (n : Counts) (ms : List Marked) → HasCounts n ms → sum ≡ (if n.params == 0 then params else n.params) + n.locals → local_names params ms ≡ replicate sum None
none_named params sum n ms h e =
    ap (λ (ids : Names). param_ids params ids ++ written_ids Local None ms) h.params
    ∙ ap (λ (ids : Names). param_ids params (replicate n.params None) ++ ids) h.locals
    ∙ ap (λ (ids : Names). ids ++ replicate n.locals None) (params_of_count params n.params)
    ∙ sym (joined (if n.params == 0 then params else n.params) n.locals)
    ∙ ap (λ (k : ℕ). let xs : Names = replicate k None in xs) (sym e)

-- no id has a place
pub none_placed : (n : ℕ) (id : List ℕ) → None ≡ place_of_id id (replicate n None ++ [])
none_placed n id = sym (behind_none n id [])
