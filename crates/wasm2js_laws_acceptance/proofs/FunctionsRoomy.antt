-- How many variables the room of code has: no more operands stand in it than are counted of the body.
use Rattle.std.proofs.Common.{◌≡◌, ℕ, zero, suc, ◌+◌, ◌*◌, ◌≤◌, max, Bool, true, false, List, [], ◌∷◌, ◌++◌, reverse, length, drop, Option, Some, None, Result, Ok, Err, refl, sym, ap, ◌∙◌, subst, arith, length-append}
use Rattle.std.specs.Prelude.{slice_get, nat_lt, ◌==◌, if◌then◌else◌}
use Rattle.std.specs.List.{list_any, flat_map, range_with_len}
use Rattle.std.proofs.lemmas.List.{length-reverse}
use Rattle.std.proofs.Math.Seq.{drop-append_seam}
use Rattle.wasm_lang.specs.declared.types.ValType.{ValType}
use Rattle.wasm_lang.specs.declared.types.ValType.TheVariants.{I32, I64}
use Rattle.wasm_lang.specs.Instructions as flat
use Rattle.wasm_lang.specs.Instructions.{Plain}
use Rattle.wasm_lang.specs.Modules.{FunctionType}
use Rattle.wasm_lang_valid.specs.declared.rule.Rule.{Rule}
use Rattle.wasm_lang_valid.specs.declared.rule.Rule.TheVariants.{NoLabel, NoFunction, NoType, NoTable}
use Rattle.wasm_lang_valid.specs.Typing.{Context, Shape, Fixed, Leaves, AnyOne, TwoAlike, Acts, found, unless, onward, listed, result_of as type_result, type_of, call_shape, plain_shape, shape, inside}
use Rattle.wasm_lang_exec.specs.Code.{unreachable, block, loop, if_block, br, br_if, br_table, return, call, call_indirect, plain, Trees, ε, ◌▹◌}
use Rattle.wasm_laws_sound.specs.Trees.{IsTyped}
use Rattle.wasm_laws_widths.specs.Depth.{in_further, depth}
use Rattle.wasm2js_translation.specs.Pairs.{Pair, names_of, local_pair, operand_pair}
use Rattle.wasm2js_translation.specs.Actions.{under}
use Rattle.wasm2js_translation.specs.Bodies.{after_form, after_plain, types_after_call}
use Rattle.wasm2js_translation.specs.Modules.{param_names}
use Rattle.wasm2js_translation.specs.Rooms.{wide_from, room_of, local_names, operand_names}
use Rattle.wasm2js_laws_typed.proofs.SoundPlain.{of_fixed, under_none}
use Rattle.wasm2js_laws_typed.proofs.TypedShapes.{same_shape, GoesOn, plain_goes_on, plain_after}

-- ---- numbers

pub two : {a b d e : ℕ} → a ≤ d → b ≤ e → max a b ≤ max d e
two p q = omega (arith, p, q)

only_first : (a b : ℕ) → a ≤ max a b
only_first a b = omega arith

-- ---- wide operands are among all

pub wide_low : (b : ℕ) (ts : List ValType) → wide_from b ts ≤ b + length ts
wide_low b [] = omega arith
wide_low b (I32 ∷ ts) = let h = wide_low b ts in omega (arith, h)
wide_low b (I64 ∷ ts) = omega arith

module _ (c : Context) where
  pub narrow : (code : Trees) (b : ℕ) (ts : List ValType) → (room_of c code b ts).wide_height ≤ (room_of c code b ts).height
  narrow ε b ts = wide_low b ts
  narrow (plain p ▹ code) b ts = two (wide_low b ts) (narrow code b (after_plain c p ts))
  narrow (unreachable ▹ code) b ts = wide_low b ts
  narrow (br k ▹ code) b ts = wide_low b ts
  narrow (return ▹ code) b ts = wide_low b ts
  narrow (br_table ks d ▹ code) b ts = wide_low b ts
  narrow (br_if k ▹ code) b ts = two (wide_low b ts) (narrow code b (drop 1 ts))
  narrow (block r body ▹ code) b ts = two (wide_low b ts) (two (narrow body (under 0 b ts) []) (narrow code b (listed r ++ ts)))
  narrow (loop r body ▹ code) b ts = two (wide_low b ts) (two (narrow body (under 0 b ts) []) (narrow code b (listed r ++ ts)))
  narrow (if_block r first second ▹ code) b ts =
      two (wide_low b ts) (two (two (narrow first (under 1 b ts) []) (narrow second (under 1 b ts) [])) (narrow code b (listed r ++ drop 1 ts)))
  narrow (call f ▹ code) b ts = two (wide_low b ts) (narrow code b (types_after_call (type_of c f) ts))
  narrow (call_indirect t ▹ code) b ts = two (wide_low b ts) (narrow code b (types_after_call (slice_get c.types t) (drop 1 ts)))

  -- ---- operands

  abbrev Goal : Trees → Type 0
  Goal code =
      (labels : List (Option ValType)) (b : ℕ) (before after : List ValType) → IsTyped (record c { labels = labels }) code before after
      → (room_of c code b before).height ≤ depth (record c { labels = labels }) code b before

  goes_further : (o : Result Shape Rule) (form : Shape) (ts : List ValType) (f : List ValType → ℕ) → o ≡ Ok form → GoesOn (Ok form) → in_further o ts f ≡ f (after_form o ts)
  goes_further (Err r) form ts f e go = absurd (cc e)
  goes_further (Ok (Leaves takes)) form ts f e go = absurd (subst GoesOn (sym e) go)
  goes_further (Ok (Fixed takes gives)) form ts f e go = refl
  goes_further (Ok AnyOne) form ts f e go = refl
  goes_further (Ok TwoAlike) form ts f e go = refl

  plain_deep : (p : Plain) (code : Trees) → Goal code → Goal (plain p ▹ code)
  plain_deep p code further labels b before after typed =
      let same = same_shape c labels p in
      let is : plain_shape c p ≡ Ok typed.form = sym same ∙ typed.has_form in
      let next = plain_after c p typed.form typed.takes typed.gives typed.below is typed.acts in
      let go = subst GoesOn is (plain_goes_on c p) in
      let f : List ValType → ℕ = λ us. depth (record c { labels = labels }) code b us in
      let on = ap (λ o. in_further o before f) same ∙ goes_further (plain_shape c p) typed.form before f is go in
      let after_it = ap (after_plain c p) typed.operands ∙ next in
      let h = subst (λ ts. (room_of c code b ts).height ≤ f ts) (sym after_it) (further labels b (typed.gives ++ typed.below) after typed.goes_on) in
      two (same_low (b + length before)) (subst (λ n. (room_of c code b (after_plain c p before)).height ≤ n) (sym on) h)
    where
      same_low : (n : ℕ) → n ≤ n
      same_low n = omega arith

  same_low : (n : ℕ) → n ≤ n
  same_low n = omega arith

  -- where an instruction has this shape
  abbrev Further : Trees → List (Option ValType) → (b : ℕ) → Result Shape Rule → (before continued : List ValType) → Type 0
  Further code labels b o before continued = (room_of c code b continued).height ≤ in_further o before (λ us. depth (record c { labels = labels }) code b us)

  dropped : (takes gives below : List ValType) → gives ++ drop (length takes) (takes ++ below) ≡ gives ++ below
  dropped takes gives below = ap (λ ts. gives ++ ts) (drop-append_seam takes below)

  branch_deep : (k : ℕ) (code : Trees) (labels : List (Option ValType)) (b : ℕ) (after : List ValType) (o : Option (Option ValType)) (form : Shape) (takes gives below : List ValType)
      → Goal code → found NoLabel o (λ label. Fixed (I32 ∷ listed label) (listed label)) ≡ Ok form → Acts form takes gives
      → IsTyped (record c { labels = labels }) code (gives ++ below) after
      → Further code labels b (found NoLabel o (λ label. Fixed (I32 ∷ listed label) (listed label))) (takes ++ below) (drop 1 (takes ++ below))
  branch_deep k code labels b after None form takes gives below further is acts = absurd (cc is)
  branch_deep k code labels b after (Some r) form takes gives below further is acts =
      of_fixed
      (λ takes gives. IsTyped (record c { labels = labels }) code (gives ++ below) after → Further code labels b (Ok (Fixed (I32 ∷ listed r) (listed r))) (takes ++ below) (drop 1 (takes ++ below)))
      (I32 ∷ listed r) (listed r) takes gives form is acts
      (λ typed.
      subst (λ ts. (room_of c code b (listed r ++ below)).height ≤ depth (record c { labels = labels }) code b ts) (sym (dropped (I32 ∷ listed r) (listed r) below))
      (further labels b (listed r ++ below) after typed))

  call_deep : (code : Trees) (labels : List (Option ValType)) (b : ℕ) (after : List ValType) (o : Option FunctionType) (form : Shape) (takes gives below : List ValType)
      → Goal code → found NoFunction o (call_shape []) ≡ Ok form → Acts form takes gives → IsTyped (record c { labels = labels }) code (gives ++ below) after
      → Further code labels b (found NoFunction o (call_shape [])) (takes ++ below) (types_after_call o (takes ++ below))
  call_deep code labels b after None form takes gives below further is acts = absurd (cc is)
  call_deep code labels b after (Some t) form takes gives below further is acts =
      of_fixed
      (λ takes gives. IsTyped (record c { labels = labels }) code (gives ++ below) after → Further code labels b (Ok (call_shape [] t)) (takes ++ below) (types_after_call (Some t) (takes ++ below)))
      (reverse t.params) (listed (type_result t)) takes gives form is acts
      (λ typed.
      let same = ap (λ n. listed (type_result t) ++ drop n (reverse t.params ++ below)) (sym (length-reverse t.params)) ∙ dropped (reverse t.params) (listed (type_result t)) below in
      subst (λ ts. (room_of c code b ts).height ≤ in_further (Ok (call_shape [] t)) (reverse t.params ++ below) (λ us. depth (record c { labels = labels }) code b us)) (sym same)
      (subst (λ ts. (room_of c code b (listed (type_result t) ++ below)).height ≤ depth (record c { labels = labels }) code b ts) (sym (dropped (reverse t.params) (listed (type_result t)) below))
      (further labels b (listed (type_result t) ++ below) after typed)))

  has_table : (t : Bool) (u : Shape) (form : Shape) → unless t NoTable u ≡ Ok form → (◌≡◌ {A = Result Shape Rule} (Ok u) (Ok form)) × (unless t NoTable u ≡ Ok u)
  has_table true u form h = (h, refl)
  has_table false u form h = absurd (cc h)

  entry_deep : (code : Trees) (labels : List (Option ValType)) (b : ℕ) (after : List ValType) (o : Option FunctionType) (form : Shape) (takes gives below : List ValType)
      → Goal code → onward (found NoType o (call_shape (I32 ∷ []))) (unless c.table NoTable) ≡ Ok form → Acts form takes gives → IsTyped (record c { labels = labels }) code (gives ++ below) after
      → Further code labels b (onward (found NoType o (call_shape (I32 ∷ []))) (unless c.table NoTable)) (takes ++ below) (types_after_call o (drop 1 (takes ++ below)))
  entry_deep code labels b after None form takes gives below further is acts = absurd (cc is)
  entry_deep code labels b after (Some t) form takes gives below further is acts =
      let has = has_table c.table (call_shape (I32 ∷ []) t) form is in
      of_fixed
      (λ takes gives. IsTyped (record c { labels = labels }) code (gives ++ below) after
      → Further code labels b (unless c.table NoTable (call_shape (I32 ∷ []) t)) (takes ++ below) (types_after_call (Some t) (drop 1 (takes ++ below))))
      (I32 ∷ reverse t.params) (listed (type_result t)) takes gives form has.0 acts
      (λ typed.
      let same = ap (λ n. listed (type_result t) ++ drop n (reverse t.params ++ below)) (sym (length-reverse t.params)) ∙ dropped (reverse t.params) (listed (type_result t)) below in
      subst (λ r. (room_of c code b (listed (type_result t) ++ drop (length t.params) (reverse t.params ++ below))).height ≤ in_further r (I32 ∷ (reverse t.params ++ below)) (λ us. depth (record c { labels = labels }) code b us)) (sym has.1)
      (subst (λ ts. (room_of c code b ts).height ≤ depth (record c { labels = labels }) code b (listed (type_result t) ++ drop (length (I32 ∷ reverse t.params)) (I32 ∷ (reverse t.params ++ below)))) (sym same)
      (subst (λ ts. (room_of c code b (listed (type_result t) ++ below)).height ≤ depth (record c { labels = labels }) code b ts) (sym (dropped (I32 ∷ reverse t.params) (listed (type_result t)) below))
      (further labels b (listed (type_result t) ++ below) after typed))))

  based : (code : Trees) (d : Context) (b : ℕ) (before : List ValType) → (room_of c code (b + length before) []).height ≤ depth d code (b + length before) []
      → (room_of c code (under 0 b before) []).height ≤ depth d code (b + length before) []
  based code d b before h = subst (λ n. (room_of c code n []).height ≤ depth d code (b + length before) []) (sym (under_none b before)) h

  pub deep : (code : Trees) → Goal code
  deep ε labels b before after typed = same_low (b + length before)
  deep (plain p ▹ code) labels b before after typed = plain_deep p code (deep code) labels b before after typed
  deep (unreachable ▹ code) labels b before after typed = only_first (b + length before) _
  deep (br k ▹ code) labels b before after typed = only_first (b + length before) _
  deep (return ▹ code) labels b before after typed = only_first (b + length before) _
  deep (br_table ks d ▹ code) labels b before after typed = only_first (b + length before) _
  deep (br_if k ▹ code) labels b before after typed =
      two (same_low (b + length before))
      (subst (λ ts. Further code labels b (shape (record c { labels = labels }) (flat.br_if k)) ts (drop 1 ts)) (sym typed.operands)
      (branch_deep k code labels b after (slice_get labels k) typed.form typed.takes typed.gives typed.below (deep code) typed.has_form typed.acts typed.goes_on))
  deep (block r body ▹ code) labels b before after typed =
      two (same_low (b + length before))
      (two (based body (inside r (record c { labels = labels })) b before (deep body (r ∷ labels) (b + length before) [] (listed r) typed.0)) (deep code labels b (listed r ++ before) after typed.1))
  deep (loop r body ▹ code) labels b before after typed =
      two (same_low (b + length before))
      (two (based body (inside None (record c { labels = labels })) b before (deep body (None ∷ labels) (b + length before) [] (listed r) typed.0)) (deep code labels b (listed r ++ before) after typed.1))
  deep (if_block r first second ▹ code) labels b before after typed =
      let below = typed.0 in
      subst (λ ts. (room_of c (if_block r first second ▹ code) b ts).height ≤ depth (record c { labels = labels }) (if_block r first second ▹ code) b ts) (sym typed.1)
      (arms_low (b + length (I32 ∷ below))
      (deep first (r ∷ labels) (b + length below) [] (listed r) typed.2) (deep second (r ∷ labels) (b + length below) [] (listed r) typed.3) (deep code labels b (listed r ++ below) after typed.4))
    where
      arms_low : (n : ℕ) {f s k g t m : ℕ} → f ≤ g → s ≤ t → k ≤ m → max n (max (max f s) k) ≤ max n (max g (max t m))
      arms_low n p q r = omega (arith, p, q, r)
  deep (call f ▹ code) labels b before after typed =
      two (same_low (b + length before))
      (subst (λ ts. Further code labels b (shape (record c { labels = labels }) (flat.call f)) ts (types_after_call (type_of c f) ts)) (sym typed.operands)
      (call_deep code labels b after (type_of c f) typed.form typed.takes typed.gives typed.below (deep code) typed.has_form typed.acts typed.goes_on))
  deep (call_indirect n ▹ code) labels b before after typed =
      two (same_low (b + length before))
      (subst (λ ts. Further code labels b (shape (record c { labels = labels }) (flat.call_indirect n)) ts (types_after_call (slice_get c.types n) (drop 1 ts))) (sym typed.operands)
      (entry_deep code labels b after (slice_get c.types n) typed.form typed.takes typed.gives typed.below (deep code) typed.has_form typed.acts typed.goes_on))

-- ---- how many variables

few_names : (t : ValType) (p : Pair) → length (names_of t p) ≤ 2
few_names I32 p = omega arith
few_names I64 p = omega arith

pub few_params : (x : ℕ) (ts : List ValType) → length (param_names x ts) ≤ 2 * length ts
few_params x [] = omega arith
few_params x (t ∷ ts) =
    let e = length-append (names_of t (local_pair x)) (param_names (suc x) ts) in
    let f = few_names t (local_pair x) in
    let g = few_params (suc x) ts in
    omega (arith, e, f, g)

pub few_locals : (named : List ℕ) (x : ℕ) (ts : List ValType) → length (local_names named x ts) ≤ 2 * length ts
few_locals named x [] = omega arith
few_locals named x (t ∷ ts) =
    let this = if list_any (λ y. x == y) named then names_of t (local_pair x) else [] in
    let e = length-append this (local_names named (suc x) ts) in
    let f = by (list_any (λ y. x == y) named) in
    let g = few_locals named (suc x) ts in
    omega (arith, e, f, g)
  where
    by : (b : Bool) → length (if b then names_of t (local_pair x) else []) ≤ 2
    by true = few_names t (local_pair x)
    by false = omega arith

pub few_operands : (wide a n : ℕ) → length (flat_map (operand_names wide) (range_with_len a n)) ≤ 2 * n
few_operands wide a zero = omega arith
few_operands wide a (suc n) =
    let e = length-append (operand_names wide a) (flat_map (operand_names wide) (range_with_len (a + 1) n)) in
    let f = few_names (if nat_lt a wide then I64 else I32) (operand_pair a) in
    let g = few_operands wide (a + 1) n in
    omega (arith, e, f, g)
