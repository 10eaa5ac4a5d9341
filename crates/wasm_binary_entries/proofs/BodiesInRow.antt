-- Locals in runs, and bodies in a row.
use Rattle.std.proofs.Common.{◌≡◌, ℕ, zero, suc, ◌+◌, ◌-◌, ◌<◌, List, [], ◌∷◌, ◌++◌, refl, sym, ap, ◌∙◌, arith, append_assoc, replicate, get_or, length, drop}
use Rattle.std.specs.Prelude.{Ok, Err}
use Rattle.std.proofs.Math.Seq.{drop-cons}
use Rattle.wasm_lang.specs.declared.fault.Fault.{Fault}
use Rattle.wasm_lang.specs.declared.types.ValType.{ValType}
use Rattle.wasm_lang.specs.Limits.{most_locals, params_of}
use Rattle.wasm_lang.specs.Modules.{FunctionType, FunctionBody}
use Rattle.wasm_lang.specs.Reading.{Input, Field, ◌>>=◌, count_field, val_type_field}
use Rattle.wasm_lang.specs.ReadingModule.{runs_field, body_field, bodies_field}
use Rattle.wasm_binary_entries.proofs.ItemsInRow.{with_front, items_on}

pub replicate_more : {X : Type 0} (n : ℕ) (x : X) → replicate n x ++ x ∷ [] ≡ replicate (suc n) x
replicate_more zero x = refl
replicate_more (suc n) x = ap (λ l. x ∷ l) (replicate_more n x)

runs_on : (front more : List ValType) (r : Field (List ValType)) → with_front front (r >>= λ ts. Ok (more ++ ts.0, ts.1)) ≡ with_front (front ++ more) r
runs_on front more (Ok x) = ap (λ l. Ok (l, x.1)) (sym (append_assoc front more x.0))
runs_on front more (Err e) = refl

runs_turn : (used count k : ℕ) (i : Input) → k < count → runs_field used (count - k) i
    ≡ (count_field used most_locals i >>= λ n. val_type_field n.1 >>= λ t. runs_field (used + n.0) (count - (k + 1)) t.1 >>= λ ts. Ok (replicate n.0 t.0 ++ ts.0, ts.1))
runs_turn used count k i lt =
    let n : count - k ≡ suc (count - (k + 1)) = omega arith in
    ap (λ n. runs_field used n i) n

pub runs_step : (used count k : ℕ) (front : List ValType) (i j next : Input) (n : ℕ) (t : ValType) → k < count → count_field used most_locals i ≡ Ok (n, j) → val_type_field j ≡ Ok (t, next)
    → with_front front (runs_field used (count - k) i) ≡ with_front (front ++ replicate n t) (runs_field (used + n) (count - (k + 1)) next)
runs_step used count k front i j next n t lt e f =
    ap (λ r. with_front front r) (runs_turn used count k i lt)
    ∙ ap (λ r. with_front front (r >>= λ n. val_type_field n.1 >>= λ t. runs_field (used + n.0) (count - (k + 1)) t.1 >>= λ ts. Ok (replicate n.0 t.0 ++ ts.0, ts.1))) e
    ∙ ap (λ r. with_front front (r >>= λ t. runs_field (used + n) (count - (k + 1)) t.1 >>= λ ts. Ok (replicate n t.0 ++ ts.0, ts.1))) f
    ∙ runs_on front (replicate n t) (runs_field (used + n) (count - (k + 1)) next)

pub runs_stop_count : (used count k : ℕ) (front : List ValType) (i : Input) (f : Fault) → k < count → count_field used most_locals i ≡ Err f
    → with_front front (runs_field used (count - k) i) ≡ Err f
runs_stop_count used count k front i f lt e =
    ap (λ r. with_front front r) (runs_turn used count k i lt)
    ∙ ap (λ r. with_front front (r >>= λ n. val_type_field n.1 >>= λ t. runs_field (used + n.0) (count - (k + 1)) t.1 >>= λ ts. Ok (replicate n.0 t.0 ++ ts.0, ts.1))) e

pub runs_stop_type : (used count k : ℕ) (front : List ValType) (i j : Input) (n : ℕ) (f : Fault) → k < count → count_field used most_locals i ≡ Ok (n, j) → val_type_field j ≡ Err f
    → with_front front (runs_field used (count - k) i) ≡ Err f
runs_stop_type used count k front i j n f lt e g =
    ap (λ r. with_front front r) (runs_turn used count k i lt)
    ∙ ap (λ r. with_front front (r >>= λ n. val_type_field n.1 >>= λ t. runs_field (used + n.0) (count - (k + 1)) t.1 >>= λ ts. Ok (replicate n.0 t.0 ++ ts.0, ts.1))) e
    ∙ ap (λ r. with_front front (r >>= λ t. runs_field (used + n) (count - (k + 1)) t.1 >>= λ ts. Ok (replicate n t.0 ++ ts.0, ts.1))) g

bodies_turn : (types : List FunctionType) (fs : List ℕ) (k : ℕ) (i : Input) → k < length fs
    → bodies_field types (drop k fs) i ≡ (body_field (params_of types (get_or fs k 0)) i >>= λ b. bodies_field types (drop (suc k) fs) b.1 >>= λ bs. Ok (b.0 ∷ bs.0, bs.1))
bodies_turn types fs k i lt = ap (λ (l : List ℕ). bodies_field types l i) (drop-cons fs k 0 lt)

pub bodies_step : (types : List FunctionType) (fs : List ℕ) (k : ℕ) (front : List FunctionBody) (i next : Input) (v : FunctionBody) (params : ℕ) → k < length fs
    → params ≡ params_of types (get_or fs k 0) → body_field params i ≡ Ok (v, next)
    → with_front front (bodies_field types (drop k fs) i) ≡ with_front (front ++ v ∷ []) (bodies_field types (drop (k + 1) fs) next)
bodies_step types fs k front i next v params lt is e =
    let n : suc k ≡ k + 1 = omega arith in
    ap (λ r. with_front front r) (bodies_turn types fs k i lt)
    ∙ ap (λ r. with_front front (r >>= λ b. bodies_field types (drop (suc k) fs) b.1 >>= λ bs. Ok (b.0 ∷ bs.0, bs.1))) (ap (λ n. body_field n i) (sym is) ∙ e)
    ∙ items_on front v (bodies_field types (drop (suc k) fs) next)
    ∙ ap (λ n. with_front (front ++ v ∷ []) (bodies_field types (drop n fs) next)) n

pub bodies_stop : (types : List FunctionType) (fs : List ℕ) (k : ℕ) (front : List FunctionBody) (i : Input) (f : Fault) → k < length fs
    → body_field (params_of types (get_or fs k 0)) i ≡ Err f
    → with_front front (bodies_field types (drop k fs) i) ≡ Err f
bodies_stop types fs k front i f lt e =
    ap (λ r. with_front front r) (bodies_turn types fs k i lt)
    ∙ ap (λ r. with_front front (r >>= λ b. bodies_field types (drop (suc k) fs) b.1 >>= λ bs. Ok (b.0 ∷ bs.0, bs.1))) e
