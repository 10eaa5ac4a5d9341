-- What one reduction makes of a typed configuration is typed.
use Rattle.std.proofs.Common.{◌≡◌, ℕ, zero, suc, List, [], ◌∷◌, ◌++◌, Option, None, Some, Result, Ok, Err, Bool, true, false, ◌&&◌, refl, sym, ap, ◌∙◌, subst}
use Rattle.std.proofs.lemmas.List.{append_assoc, reverse-reverse, length-reverse}
use Rattle.std.specs.Prelude.{length, reverse, slice_get, if◌then◌else◌}
use Rattle.sem_words.specs.declared.word.Word.{Word}
use Rattle.sem_words.specs.declared.word.Word.TheVariants.{W32, W64}
use Rattle.sem_words.specs.declared.word.TrapKind.TheVariants as kinds
use Rattle.session_lang.specs.Observation.{trapped}
use Rattle.session_lang.specs.Imports.{ImportAnswer, goes_on, ends, answer_import}
use Rattle.wasm_lang.specs.declared.types.ValType.{ValType}
use Rattle.wasm_lang.specs.declared.types.ValType.TheVariants.{I32, I64}
use Rattle.wasm_lang.specs.Instructions as flat
use Rattle.wasm_lang.specs.Instructions.{Instruction, Plain, const32, const64}
use Rattle.wasm_lang.specs.Modules.{FunctionType, WasmModule}
use Rattle.wasm_lang_valid.specs.declared.rule.Rule.{Rule}
use Rattle.wasm_lang_valid.specs.declared.rule.Rule.TheVariants.{NoLabel, NoFunction, NoType, NoTable, LabelsDiffer}
use Rattle.wasm_lang_valid.specs.ModuleRules.{has_table, type_of_function}
use Rattle.wasm_lang_valid.specs.Typing as typing
use Rattle.wasm_lang_valid.specs.Typing.{Context, Fixed, Leaves, listed, result_of, inside, found, onward, unless, all_labels, same, same_result, carries, alike, call_shape}
use Rattle.wasm_lang_exec.specs.Code.{unreachable, block, loop, if_block, br, br_if, br_table, return, call, call_indirect, plain, Trees, ε, ◌▹◌, ◌⊕◌}
use Rattle.wasm_lang_exec.specs.Store.{Store, zeros_of}
use Rattle.wasm_lang_exec.specs.Plain.{Effect, goes, traps, sticks, do_plain}
use Rattle.wasm_lang_exec.specs.Reductions.{Callee, an_import, a_function, callee_at, type_of, top_of, below_top, arity_of, result_word, after_answer, enter, do_call, same_types, same_type, of_type, call_entry, choose, default_to, Config, Code, Label, Frame, Reduct, to, is_values, branches, returns, stops, is_stuck, after_effect, leave, reduce_code, reduce_label, reduce_frame, reduce}
use Rattle.wasm_laws_sound.specs.Trees.{Steps, IsTyped}
use Rattle.wasm_laws_sound.specs.Configurations.{HaveTypes, IsTypedStore, Carries, within, IsTypedLabel, IsTypedFrame, IsTypedConfig, IsTypedReduct, IsTypedEffect, IsTypedCallee, AreTypedFunctions}
use Rattle.wasm_laws_sound.proofs.Values.{length-written, word_has_type, zeros_have, have_both, have_reverse, have_top, have_below}
use Rattle.wasm_laws_sound.proofs.Plains.{is_ok, is_found, is_allowed, as_form, plain_typed}

arity_listed : (r : Option ValType) → arity_of r ≡ length (listed r)
arity_listed None = refl
arity_listed (Some t) = refl

-- ---- what a typed instruction finds, and what is further

pub record Fixedly (c : Context) (code : Trees) (after takes gives : List ValType) (values : List Word) : Type 0 where
  pub below : List ValType
  pub have : HaveTypes (takes ++ below) values
  pub further : IsTyped c code (gives ++ below) after

fixedly : (c : Context) (i : Instruction) (code : Trees) (before after takes gives : List ValType) (values : List Word)
    → (it : Steps c i before (λ middle. IsTyped c code middle after)) → Fixed takes gives ≡ it.form → HaveTypes before values → Fixedly c code after takes gives values
fixedly c i code before after takes gives values it e h =
    let lists = as_form (Fixed takes gives) e it.acts in
    record {
      below = it.below;
      have = subst (λ l. HaveTypes l values) (it.operands ∙ ap (λ l. l ++ it.below) lists.0) h;
      further = subst (λ l. IsTyped c code (l ++ it.below) after) lists.1 it.goes_on;
    }

pub record Leaving (takes : List ValType) (values : List Word) : Type 0 where
  pub below : List ValType
  pub have : HaveTypes (takes ++ below) values

leaving : (c : Context) (i : Instruction) (code : Trees) (before after takes : List ValType) (values : List Word)
    → (it : Steps c i before (λ middle. IsTyped c code middle after)) → Leaves takes ≡ it.form → HaveTypes before values → Leaving takes values
leaving c i code before after takes values it e h =
    let lists = as_form (Leaves takes) e it.acts in
    record {
      below = lists.0 ++ it.below;
      have = subst (λ l. HaveTypes l values) (it.operands ∙ ap (λ l. l ++ it.below) lists.1 ∙ append_assoc takes lists.0 it.below) h;
    }

-- ---- types that are found equal

pub same_is : (t u : ValType) → same t u ≡ true → t ≡ u
same_is I32 I32 e = refl
same_is I32 I64 e = cc e
same_is I64 I32 e = cc e
same_is I64 I64 e = refl

pub both_true : (a b : Bool) → (a && b) ≡ true → (a ≡ true) × (b ≡ true)
both_true true b e = (refl, e)
both_true false b e = cc e

same_types_are : (ts us : List ValType) → same_types ts us ≡ true → ts ≡ us
same_types_are [] [] e = refl
same_types_are [] (u ∷ us) e = cc e
same_types_are (t ∷ ts) [] e = cc e
same_types_are (t ∷ ts) (u ∷ us) e =
    let b = both_true (same t u) (same_types ts us) e in
    ap (λ t. t ∷ ts) (same_is t u b.0) ∙ ap (λ ts. u ∷ ts) (same_types_are ts us b.1)

same_type_is : (t u : FunctionType) → same_type t u ≡ true → t ≡ u
same_type_is t u e =
    let b = both_true (same_types t.params u.params) (same_types t.results u.results) e in
    let params = same_types_are t.params u.params b.0 in
    let results = same_types_are t.results u.results b.1 in
    ap (λ ps. record { params = ps; results = t.results }) params ∙ ap (λ rs. record { params = u.params; results = rs }) results

same_result_is : (r s : Option ValType) → same_result r s ≡ true → r ≡ s
same_result_is None None e = refl
same_result_is None (Some t) e = cc e
same_result_is (Some t) None e = cc e
same_result_is (Some t) (Some u) e = ap Some (same_is t u e)

-- a label that carries the same as this one
carries_is : (o : Option (Option ValType)) (label : Option ValType) → carries o (Some label) ≡ true → o ≡ Some label
carries_is None label e = cc e
carries_is (Some r) label e = ap Some (same_result_is r label e)

alike_at : (labels : List (Option ValType)) (ls : List ℕ) (d i k : ℕ) → alike labels ls d ≡ true → slice_get ls i ≡ Some k → carries (slice_get labels k) (slice_get labels d) ≡ true
alike_at labels [] d i k e there = cc there
alike_at labels (l ∷ ls) d zero k e there =
    let same : l ≡ k = cc there in
    subst (λ l. carries (slice_get labels l) (slice_get labels d) ≡ true) same (both_true (carries (slice_get labels l) (slice_get labels d)) (alike labels ls d) e).0
alike_at labels (l ∷ ls) d (suc i) k e there = alike_at labels ls d i k (both_true (carries (slice_get labels l) (slice_get labels d)) (alike labels ls d) e).1 there

-- the label that a table chooses
chosen_label : (labels : List (Option ValType)) (ls : List ℕ) (d i : ℕ) (label : Option ValType) (o : Option ℕ)
    → alike labels ls d ≡ true → slice_get labels d ≡ Some label → slice_get ls i ≡ o → slice_get labels (default_to d o) ≡ Some label
chosen_label labels ls d i label None e default there = default
chosen_label labels ls d i label (Some k) e default there =
    carries_is (slice_get labels k) label (subst (λ o. carries (slice_get labels k) o ≡ true) default (alike_at labels ls d i k e there))

is_true : (b : Bool) (rule : Rule) → ◌≡◌ {A = Result (Unit {0}) Rule} (unless b rule tt) (Ok tt) → b ≡ true
is_true true rule e = refl
is_true false rule e = cc e

pub record IsOnward {A B : Type 0} (r : Result A Rule) (f : A → Result B Rule) (y : B) : Type 0 where
  pub item : A
  pub is_good : r ≡ Ok item
  pub gives : f item ≡ Ok y

is_onward : {A B : Type 0} (r : Result A Rule) (f : A → Result B Rule) (y : B) → onward r f ≡ Ok y → IsOnward r f y
is_onward (Ok x) f y e = record { item = x; is_good = refl; gives = e }
is_onward (Err x) f y e = cc e

-- ---- calls

result_words : (params results : List ValType) (n : ℕ) → HaveTypes (listed (result_of (record { params = params; results = results }))) (result_word results n)
result_words params [] n = tt
result_words params (t ∷ ts) n = (word_has_type t n, tt)

module _ (m : WasmModule) (types : List ValType) (labels : List (Option ValType)) (result : Option ValType) (after : List ValType)
    (locals : List Word) (s : Store) (have : HaveTypes types locals) (is_store : IsTypedStore m s) where
  abbrev Reduces : Reduct → Type 0
  Reduces r = IsTypedReduct m r types labels result after

  abbrev here : Context
  here = within m types labels result

  answer_typed : (a : ImportAnswer) (t : FunctionType) (below : List ValType) (values : List Word) (code : Trees)
      → HaveTypes below values → IsTyped here code (listed (result_of t) ++ below) after → Reduces (after_answer a t.results values code locals s)
  answer_typed (ends e) t below values code h typed = tt
  answer_typed (goes_on g) t below values code h typed = (
    record {
      before = listed (result_of t) ++ below;
      have = have_both (listed (result_of t)) below (result_word t.results g.word) values (result_words t.params t.results g.word) h;
      goes_on = typed;
    },
    have,
    (is_store.0, is_store.1, length-written g.writes s.memory ∙ is_store.2),
  )

  enter_typed : (c : Callee) (below : List ValType) (arguments values : List Word) (code : Trees)
      → IsTypedCallee m c → HaveTypes (reverse (type_of c).params) arguments → HaveTypes below values
      → IsTyped here code (listed (result_of (type_of c)) ++ below) after → Reduces (enter (Some c) (Some arguments) values code locals s)
  enter_typed (an_import name t) below arguments values code callee given h typed = answer_typed (answer_import name (reverse arguments) s.replies) t below values code h typed
  enter_typed (a_function t more body) below arguments values code callee given h typed = (
    record {
      types = t.params ++ more;
      result = result_of t;
      below = below;
      carries = ap length (sym callee.0);
      have = h;
      have_inner = have_both t.params more (reverse arguments) (zeros_of more)
          (subst (λ ts. HaveTypes ts (reverse arguments)) (reverse-reverse t.params) (have_reverse (reverse t.params) arguments given)) (zeros_have more);
      is_inside = record { before = []; have = tt; goes_on = callee.1 };
      at_end = typed;
    },
    have,
    is_store,
  )

  pub call_typed : (c : Callee) (below : List ValType) (values : List Word) (code : Trees)
      → IsTypedCallee m c → HaveTypes (reverse (type_of c).params ++ below) values
      → IsTyped here code (listed (result_of (type_of c)) ++ below) after → Reduces (do_call (Some c) values code locals s)
  call_typed c below values code callee h typed =
      let params = reverse (type_of c).params in
      let it = have_top params below values h in
      subst (λ n. Reduces (enter (Some c) (top_of n values) (below_top n values) code locals s)) (length-reverse (type_of c).params)
      (subst (λ o. Reduces (enter (Some c) o (below_top (length params) values) code locals s)) (sym it.is_top)
      (enter_typed c below it.top (below_top (length params) values) code callee it.have (have_below params below values h) typed))

  -- ---- instructions

  effect_typed : (e : Effect) (middle : List ValType) (code : Trees) → IsTypedEffect m e types middle → IsTyped here code middle after → Reduces (after_effect e code s)
  effect_typed (goes values locals' s') middle code h typed = (record { before = middle; have = h.0; goes_on = typed }, h.1, h.2)
  effect_typed (traps kind) middle code h typed = tt
  effect_typed sticks middle code h typed = absurd h

  chosen_typed : (x : ℕ) (r : Option ValType) (first second : Trees)
      → IsTyped (inside r here) first [] (listed r) → IsTyped (inside r here) second [] (listed r) → IsTyped (inside r here) (choose x first second) [] (listed r)
  chosen_typed zero r first second h i = i
  chosen_typed (suc x) r first second h i = h

  if_typed : (r : Option ValType) (first second code : Trees) (below : List ValType) (values : List Word)
      → HaveTypes (I32 ∷ below) values → IsTyped (inside r here) first [] (listed r) → IsTyped (inside r here) second [] (listed r) → IsTyped here code (listed r ++ below) after
      → Reduces (reduce_code m (if_block r first second ▹ code) values locals s)
  if_typed r first second code below (W32 x ∷ values) h one other typed = (
    record {
      label = r;
      result = r;
      below = below;
      carries = arity_listed r;
      have = h.1;
      is_inside = record { before = []; have = tt; goes_on = chosen_typed x r first second one other };
      at_end = typed;
      at_branch = typed;
    },
    have,
    is_store,
  )
  if_typed r first second code below (W64 x ∷ values) h one other typed = absurd h.0
  if_typed r first second code below [] h one other typed = absurd h

  choice_typed : (x l : ℕ) (label : Option ValType) (below : List ValType) (values : List Word) (code : Trees)
      → slice_get labels l ≡ Some label → HaveTypes (listed label ++ below) values → IsTyped here code (listed label ++ below) after
      → Reduces (choose x (branches l values) (to (Code values code) locals s))
  choice_typed zero l label below values code there h typed = (record { before = listed label ++ below; have = h; goes_on = typed }, have, is_store)
  choice_typed (suc x) l label below values code there h typed = (label, there, record { below = below; have = h })

  br_if_typed : (l : ℕ) (label : Option ValType) (below : List ValType) (values : List Word) (code : Trees)
      → slice_get labels l ≡ Some label → HaveTypes (I32 ∷ (listed label ++ below)) values → IsTyped here code (listed label ++ below) after
      → Reduces (reduce_code m (br_if l ▹ code) values locals s)
  br_if_typed l label below (W32 x ∷ values) code there h typed = choice_typed x l label below values code there h.1 typed
  br_if_typed l label below (W64 x ∷ values) code there h typed = absurd h.0
  br_if_typed l label below [] code there h typed = absurd h

  br_table_typed : (ls : List ℕ) (d : ℕ) (label : Option ValType) (below : List ValType) (values : List Word) (code : Trees)
      → alike labels ls d ≡ true → slice_get labels d ≡ Some label → HaveTypes (I32 ∷ (listed label ++ below)) values → Reduces (reduce_code m (br_table ls d ▹ code) values locals s)
  br_table_typed ls d label below (W32 x ∷ values) code all there h = (label, chosen_label labels ls d x label (slice_get ls x) all there refl, record { below = below; have = h.1 })
  br_table_typed ls d label below (W64 x ∷ values) code all there h = absurd h.0
  br_table_typed ls d label below [] code all there h = absurd h

  module _ (functions : AreTypedFunctions m) where
    -- a call by a type that the called function turns out to have
    checked_typed : (is : Bool) (f : ℕ) (t : FunctionType) (o : Option Callee) (below : List ValType) (values : List Word) (code : Trees)
        → callee_at m f ≡ o → of_type (Some t) o ≡ is → HaveTypes (reverse t.params ++ below) values → IsTyped here code (listed (result_of t) ++ below) after
        → Reduces (if is then do_call o values code locals s else stops (trapped kinds.OtherType) s)
    checked_typed false f t o below values code there is h typed = tt
    checked_typed true f t None below values code there is h typed = cc is
    checked_typed true f t (Some c) below values code there is h typed =
        let same = same_type_is t (type_of c) is in
        call_typed c below values code (functions.are_typed f c there)
        (subst (λ (t : FunctionType). HaveTypes (reverse t.params ++ below) values) same h)
        (subst (λ t. IsTyped here code (listed (result_of t) ++ below) after) same typed)

    entry_typed : (type : ℕ) (t : FunctionType) (entry : Option (Option ℕ)) (below : List ValType) (values : List Word) (code : Trees)
        → slice_get m.types type ≡ Some t → HaveTypes (reverse t.params ++ below) values → IsTyped here code (listed (result_of t) ++ below) after
        → Reduces (call_entry m type entry values code locals s)
    entry_typed type t None below values code there h typed = tt
    entry_typed type t (Some None) below values code there h typed = tt
    entry_typed type t (Some (Some f)) below values code there h typed =
        subst (λ o. Reduces (if of_type o (callee_at m f) then do_call (callee_at m f) values code locals s else stops (trapped kinds.OtherType) s)) (sym there)
        (checked_typed (of_type (Some t) (callee_at m f)) f t (callee_at m f) below values code refl refl h typed)

    indirect_typed : (type : ℕ) (t : FunctionType) (below : List ValType) (values : List Word) (code : Trees)
        → slice_get m.types type ≡ Some t → HaveTypes (I32 ∷ (reverse t.params ++ below)) values → IsTyped here code (listed (result_of t) ++ below) after
        → Reduces (reduce_code m (call_indirect type ▹ code) values locals s)
    indirect_typed type t below (W32 i ∷ values) code there h typed = entry_typed type t (slice_get s.table i) below values code there h.1 typed
    indirect_typed type t below (W64 i ∷ values) code there h typed = absurd h.0
    indirect_typed type t below [] code there h typed = absurd h

    pub direct_typed : (f : ℕ) (t : FunctionType) (below : List ValType) (values : List Word) (code : Trees)
        → type_of_function m f ≡ Some t → HaveTypes (reverse t.params ++ below) values → IsTyped here code (listed (result_of t) ++ below) after
        → Reduces (do_call (callee_at m f) values code locals s)
    direct_typed f t below values code there h typed =
        let it = functions.are_there f t there in
        subst (λ o. Reduces (do_call o values code locals s)) (sym it.1)
        (call_typed it.0 below values code (functions.are_typed f it.0 it.1)
        (subst (λ (t : FunctionType). HaveTypes (reverse t.params ++ below) values) (sym it.2) h)
        (subst (λ t. IsTyped here code (listed (result_of t) ++ below) after) (sym it.2) typed))

    plain_goes : (p : Plain) (values : List Word) (before : List ValType) (code : Trees)
        → (it : Steps here (flat.plain p) before (λ middle. IsTyped here code middle after)) → HaveTypes before values
        → IsTypedEffect m (do_plain p values locals s) types (it.gives ++ it.below)
    plain_goes p values before code it h =
        plain_typed m types it.below locals s have is_store labels result p values it.has_form it.acts (subst (λ l. HaveTypes l values) it.operands h)

    pub code_typed : (code : Trees) (values : List Word) (before : List ValType) → IsTyped here code before after → HaveTypes before values → Reduces (reduce_code m code values locals s)
    code_typed ε values before it h = subst (λ l. HaveTypes l values) it h
    code_typed (plain (const32 n) ▹ code) values before it h = code_typed code (W32 n ∷ values) (it.gives ++ it.below) it.goes_on (plain_goes (const32 n) values before code it h).0
    code_typed (plain (const64 n) ▹ code) values before it h = code_typed code (W64 n ∷ values) (it.gives ++ it.below) it.goes_on (plain_goes (const64 n) values before code it h).0
    code_typed (plain p ▹ code) values before it h = effect_typed (do_plain p values locals s) (it.gives ++ it.below) code (plain_goes p values before code it h) it.goes_on
    code_typed (unreachable ▹ code) values before it h = tt
    code_typed (block r body ▹ code) values before it h = (
      record {
        label = r;
        result = r;
        below = before;
        carries = arity_listed r;
        have = h;
        is_inside = record { before = []; have = tt; goes_on = it.0 };
        at_end = it.1;
        at_branch = it.1;
      },
      have,
      is_store,
    )
    code_typed (loop r body ▹ code) values before it h = (
      record {
        label = None;
        result = r;
        below = before;
        carries = refl;
        have = h;
        is_inside = record { before = []; have = tt; goes_on = it.0 };
        at_end = it.1;
        at_branch = it;
      },
      have,
      is_store,
    )
    code_typed (if_block r first second ▹ code) values before it h =
        if_typed r first second code it.0 values (subst (λ l. HaveTypes l values) it.1 h) it.2 it.3 it.4
    code_typed (br l ▹ code) values before it h =
        let label = is_found NoLabel (slice_get labels l) (λ label. Leaves (listed label)) it.form it.has_form in
        let left = leaving here (flat.br l) code before after (listed label.item) values it label.gives h in
        (label.item, label.is_there, record { below = left.below; have = left.have })
    code_typed (br_if l ▹ code) values before it h =
        let label = is_found NoLabel (slice_get labels l) (λ label. Fixed (I32 ∷ listed label) (listed label)) it.form it.has_form in
        let at = fixedly here (flat.br_if l) code before after (I32 ∷ listed label.item) (listed label.item) values it label.gives h in
        br_if_typed l label.item at.below values code label.is_there at.have at.further
    code_typed (br_table ls d ▹ code) values before it h =
        let all = is_onward (all_labels labels ls) (λ _. found NoLabel (slice_get labels d) (λ label. Leaves (I32 ∷ listed label))) it.form it.has_form in
        let label = is_found NoLabel (slice_get labels d) (λ label. Leaves (I32 ∷ listed label)) it.form all.gives in
        let left = leaving here (flat.br_table ls d) code before after (I32 ∷ listed label.item) values it label.gives h in
        br_table_typed ls d label.item left.below values code (is_true (alike labels ls d) LabelsDiffer it.keeps_rules) label.is_there left.have
    code_typed (return ▹ code) values before it h =
        let left = leaving here flat.return code before after (listed result) values it (is_ok _ _ it.has_form) h in
        record { below = left.below; have = left.have }
    code_typed (call f ▹ code) values before it h =
        let t = is_found NoFunction (typing.type_of here f) (call_shape []) it.form it.has_form in
        let at = fixedly here (flat.call f) code before after (reverse t.item.params) (listed (result_of t.item)) values it t.gives h in
        direct_typed f t.item at.below values code t.is_there at.have at.further
    code_typed (call_indirect type ▹ code) values before it h =
        let shape = is_onward (found NoType (slice_get m.types type) (call_shape (I32 ∷ []))) (unless (has_table m) NoTable) it.form it.has_form in
        let t = is_found NoType (slice_get m.types type) (call_shape (I32 ∷ [])) shape.item shape.is_good in
        let at = fixedly here (flat.call_indirect type) code before after (I32 ∷ reverse t.item.params) (listed (result_of t.item)) values it (t.gives ∙ is_allowed (has_table m) NoTable _ _ shape.gives) h in
        indirect_typed type t.item at.below values code t.is_there at.have at.further

-- ---- labels and frames

module _ (m : WasmModule) (types : List ValType) (labels : List (Option ValType)) (result : Option ValType) (after : List ValType) where
  -- what leaves a label or a frame finds the values that it takes along
  leave_typed : (n : ℕ) (carried : Option ValType) (below : List ValType) (top values : List Word) (code : Trees) (locals : List Word) (s : Store)
      → n ≡ length (listed carried) → Carries carried top → HaveTypes below values → IsTyped (within m types labels result) code (listed carried ++ below) after
      → HaveTypes types locals → IsTypedStore m s → IsTypedReduct m (leave m (top_of n top) values code locals s) types labels result after
  leave_typed n carried below top values code locals s arity carries h typed have is_store =
      let it = have_top (listed carried) carries.below top carries.have in
      subst (λ n. IsTypedReduct m (leave m (top_of n top) values code locals s) types labels result after) (sym arity)
      (subst (λ o. IsTypedReduct m (leave m o values code locals s) types labels result after) (sym it.is_top)
      (record { before = listed carried ++ below; have = have_both (listed carried) below it.top values it.have h; goes_on = typed }, have, is_store))

  module _ (values : List Word) (n : ℕ) (continuation code : Trees) where
    abbrev IsLabel : (Option ValType → Option ValType → Type 0) → Type 0
    IsLabel Inside = IsTypedLabel values n continuation code (within m types labels result) after Inside

    label_typed : (Inside : Option ValType → Option ValType → Type 0) (r : Reduct) (locals : List Word) (s : Store) → (it : IsLabel Inside)
        → IsTypedReduct m r types (it.label ∷ labels) result (listed it.result) → HaveTypes types locals → IsTypedStore m s
        → IsTypedReduct m (reduce_label m r values n continuation code locals s) types labels result after
    label_typed Inside (to c locals' s') locals s it typed have is_store = (
      record {
        label = it.label;
        result = it.result;
        below = it.below;
        carries = it.carries;
        have = it.have;
        is_inside = typed.0;
        at_end = it.at_end;
        at_branch = it.at_branch;
      },
      typed.1,
      typed.2,
    )
    label_typed Inside (is_values top) locals s it typed have is_store =
        (record { before = listed it.result ++ it.below; have = have_both (listed it.result) it.below top values typed it.have; goes_on = it.at_end }, have, is_store)
    label_typed Inside (branches zero top) locals s it typed have is_store =
        let same : typed.0 ≡ it.label = cc typed.1 in
        leave_typed n it.label it.below top values (continuation ⊕ code) locals s it.carries (subst (λ l. Carries l top) same typed.2) it.have it.at_branch have is_store
    label_typed Inside (branches (suc k) top) locals s it typed have is_store = typed
    label_typed Inside (returns top) locals s it typed have is_store = typed
    label_typed Inside (stops e s') locals s it typed have is_store = tt
    label_typed Inside is_stuck locals s it typed have is_store = absurd typed

  module _ (values : List Word) (n : ℕ) (inner : List Word) (code : Trees) where
    abbrev IsFrame : (List ValType → Option ValType → Type 0) → Type 0
    IsFrame Inside = IsTypedFrame values n inner code (within m types labels result) after Inside

    frame_typed : (Inside : List ValType → Option ValType → Type 0) (r : Reduct) (locals : List Word) (s : Store) → (it : IsFrame Inside)
        → IsTypedReduct m r it.types (it.result ∷ []) it.result (listed it.result) → HaveTypes types locals → IsTypedStore m s
        → IsTypedReduct m (reduce_frame m r values n code locals s) types labels result after
    frame_typed Inside (to c inner' s') locals s it typed have is_store = (
      record {
        types = it.types;
        result = it.result;
        below = it.below;
        carries = it.carries;
        have = it.have;
        have_inner = typed.1;
        is_inside = typed.0;
        at_end = it.at_end;
      },
      have,
      typed.2,
    )
    frame_typed Inside (is_values top) locals s it typed have is_store =
        (record { before = listed it.result ++ it.below; have = have_both (listed it.result) it.below top values typed it.have; goes_on = it.at_end }, have, is_store)
    frame_typed Inside (branches zero top) locals s it typed have is_store =
        let same : typed.0 ≡ it.result = cc typed.1 in
        leave_typed n it.result it.below top values code locals s it.carries (subst (λ l. Carries l top) same typed.2) it.have it.at_end have is_store
    frame_typed Inside (branches (suc k) top) locals s it typed have is_store = cc typed.1
    frame_typed Inside (returns top) locals s it typed have is_store =
        leave_typed n it.result it.below top values code locals s it.carries typed it.have it.at_end have is_store
    frame_typed Inside (stops e s') locals s it typed have is_store = tt
    frame_typed Inside is_stuck locals s it typed have is_store = absurd typed

module _ (m : WasmModule) (functions : AreTypedFunctions m) where
  pub reduce_typed : (c : Config) (types : List ValType) (labels : List (Option ValType)) (result : Option ValType) (after : List ValType) (locals : List Word) (s : Store)
      → IsTypedConfig m c types labels result after → HaveTypes types locals → IsTypedStore m s → IsTypedReduct m (reduce m c locals s) types labels result after
  reduce_typed (Code values code) types labels result after locals s it have is_store =
      code_typed m types labels result after locals s have is_store functions code values it.before it.goes_on it.have
  reduce_typed (Label values n continuation c code) types labels result after locals s it have is_store =
      label_typed m types labels result after values n continuation code (λ label r. IsTypedConfig m c types (label ∷ labels) result (listed r)) (reduce m c locals s) locals s it
      (reduce_typed c types (it.label ∷ labels) result (listed it.result) locals s it.is_inside have is_store) have is_store
  reduce_typed (Frame values n inner c code) types labels result after locals s it have is_store =
      frame_typed m types labels result after values n inner code (λ own r. IsTypedConfig m c own (r ∷ []) r (listed r)) (reduce m c inner s) locals s it
      (reduce_typed c it.types (it.result ∷ []) it.result (listed it.result) inner s it.is_inside it.have_inner is_store) have is_store
