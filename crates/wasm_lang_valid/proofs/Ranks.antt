-- The rule by which the pass refuses an instruction is the one of the least number that it always breaks.
use Rattle.std.proofs.Common.{◌≡◌, ◌≢◌, inl, inr, ℕ, ◌<◌, ◌≤◌, Bool, true, false, List, [], ◌∷◌, length, Option, Some, None, refl, sym, ap, ◌∙◌, subst, arith}
use Rattle.std.specs.Prelude.{Result, Ok, Err, slice_get, nat_le}
use Rattle.std.proofs.lemmas.List.{append-nil}
use Rattle.wasm_lang.specs.declared.types.ValType.{ValType}
use Rattle.wasm_lang.specs.declared.types.ValType.TheVariants.{I32}
use Rattle.wasm_lang_valid.specs.declared.rule.Opening.{Opening}
use Rattle.wasm_lang_valid.specs.declared.rule.Opening.TheVariants.{Straight, Back, FirstArm}
use Rattle.wasm_lang_valid.specs.declared.rule.Rule.{Rule}
use Rattle.wasm_lang_valid.specs.declared.rule.Rule.TheVariants.{Nesting, NoType, NoFunction, NoTable, NoMemory, NoGlobal, NoLocal, NoLabel, OtherType, MissingOperand, OperandsLeft, Alignment, ConstantGlobal, Initializer, Size, SecondMemory, SecondTable, RepeatedName, StartType, LabelsDiffer, IfWithoutElse, TwoResults}
use Rattle.wasm_lang.specs.Instructions as code
use Rattle.wasm_lang.specs.Instructions.{Plain, Instruction, block, loop, if_block, else_mark, end_mark, br, br_if, br_table, call, call_indirect, plain}
use Rattle.wasm_lang_valid.specs.Typing.{Context, onward, same, unless, found, all_labels, alike, late, listed, Shape, Fixed, Leaves, AnyOne, TwoAlike, plain_shape, plain_late, shape, call_shape, may_set, natural, may_end, may_turn}
use Rattle.wasm_lang_valid.specs.State.{Operand, Level, take_one, take_all, take_any, joined, acted, nothing_left, closes, around, on_top, opened, plainly, step, steps, at_start}
use Rattle.wasm_lang.specs.Instructions.{is_simple}
use Rattle.wasm_lang_valid.specs.Rules.{Open, standing, Needs, Takes, Agrees, LeavesOver, Breaks, number, IsRule}
use Rattle.wasm_lang_valid.proofs.Stands.{Stands, ok_is, onward_ok, some_stack, closes_only}
use Rattle.wasm_lang_valid.proofs.Reached.{StandAll, a_block, no_block, open_of, same_around, first_of_all, may_be_stands, stands_may_be}
use Rattle.wasm_lang_valid.proofs.Needs.{onward_err, agrees_front, shape_fine, Fine, all_other, all_missing, all_missing_agree, all_serve, all_left, shape_other, shape_missing, shape_agree, Agree}

-- a refusal, if any, is by such a rule
abbrev Only : (Rule → Type 0) → {A : Type 0} → Result A Rule → Type 0
Only P (Ok x) = Unit {0}
Only P (Err r) = P r

only_onward : (P : Rule → Type 0) {A B : Type 0} (r : Result A Rule) (f : A → Result B Rule) → Only P r → ((x : A) → Only P (f x)) → Only P (onward r f)
only_onward P (Ok x) f h g = g x
only_onward P (Err r) f h g = h

only_unless : (P : Rule → Type 0) {A : Type 0} (b : Bool) (r : Rule) (x : A) → P r → Only P (unless b r x)
only_unless P true r x h = tt
only_unless P false r x h = h

only_found : (P : Rule → Type 0) {A B : Type 0} (r : Rule) (o : Option A) (f : A → B) → P r → Only P (found r o f)
only_found P r None f h = h
only_found P r (Some x) f h = tt

only_is : (P : Rule → Type 0) {A : Type 0} (s : Result A Rule) (r : Rule) → Only P s → s ≡ Err r → P r
only_is P s r h q = subst (Only P) q h

abbrev IsEarly : Rule → Type 0
IsEarly NoType = Unit {0}
IsEarly NoFunction = Unit {0}
IsEarly NoTable = Unit {0}
IsEarly NoMemory = Unit {0}
IsEarly NoGlobal = Unit {0}
IsEarly NoLocal = Unit {0}
IsEarly NoLabel = Unit {0}
IsEarly r = ⊥

abbrev IsOfOperands : Rule → Type 0
IsOfOperands OtherType = Unit {0}
IsOfOperands MissingOperand = Unit {0}
IsOfOperands r = ⊥

abbrev IsOfEnds : Rule → Type 0
IsOfEnds OtherType = Unit {0}
IsOfEnds MissingOperand = Unit {0}
IsOfEnds OperandsLeft = Unit {0}
IsOfEnds r = ⊥

abbrev IsLate : Rule → Type 0
IsLate Alignment = Unit {0}
IsLate ConstantGlobal = Unit {0}
IsLate LabelsDiffer = Unit {0}
IsLate r = ⊥

early_labels : (labels : List (Option ValType)) (ls : List ℕ) → Only IsEarly (all_labels labels ls)
early_labels labels [] = tt
early_labels labels (l ∷ ls) = only_onward IsEarly (found NoLabel (slice_get labels l) (λ t. t)) _ (only_found IsEarly NoLabel _ _ tt) (λ t. early_labels labels ls)

early_plain : (c : Context) (p : Plain) → Only IsEarly (plain_shape c p)
early_plain c (code.local_get x) = only_found IsEarly NoLocal _ _ tt
early_plain c (code.local_set x) = only_found IsEarly NoLocal _ _ tt
early_plain c (code.local_tee x) = only_found IsEarly NoLocal _ _ tt
early_plain c (code.global_get x) = only_found IsEarly NoGlobal _ _ tt
early_plain c (code.global_set x) = only_found IsEarly NoGlobal _ _ tt
early_plain c (code.load op align offset) = only_unless IsEarly c.memory NoMemory _ tt
early_plain c (code.store op align offset) = only_unless IsEarly c.memory NoMemory _ tt
early_plain c code.memory_size = only_unless IsEarly c.memory NoMemory _ tt
early_plain c code.memory_copy = only_unless IsEarly c.memory NoMemory _ tt
early_plain c code.memory_fill = only_unless IsEarly c.memory NoMemory _ tt
early_plain c p = tt

early_shape : (c : Context) (i : Instruction) → is_simple i ≡ true → Only IsEarly (shape c i)
early_shape c (br l) e = only_found IsEarly NoLabel _ _ tt
early_shape c (br_if l) e = only_found IsEarly NoLabel _ _ tt
early_shape c (br_table ls d) e = only_onward IsEarly (all_labels c.labels ls) _ (early_labels c.labels ls) (λ u. only_found IsEarly NoLabel _ _ tt)
early_shape c (call f) e = only_found IsEarly NoFunction _ _ tt
early_shape c (call_indirect t) e = only_onward IsEarly (found NoType (slice_get c.types t) (call_shape (I32 ∷ []))) _ (only_found IsEarly NoType _ _ tt) (λ s. only_unless IsEarly c.table NoTable s tt)
early_shape c (plain p) e = early_plain c p
early_shape c (block r) e = cc
early_shape c (loop r) e = cc
early_shape c (if_block r) e = cc
early_shape c else_mark e = cc
early_shape c end_mark e = cc
early_shape c i e = tt

late_plain : (c : Context) (p : Plain) → Only IsLate (plain_late c p)
late_plain c (code.load op align offset) = only_unless IsLate (nat_le align (natural op.size)) Alignment tt tt
late_plain c (code.store op align offset) = only_unless IsLate (nat_le align (natural op.size)) Alignment tt tt
late_plain c (code.global_set x) = only_unless IsLate (may_set (slice_get c.globals x)) ConstantGlobal tt tt
late_plain c p = tt

late_only : (c : Context) (i : Instruction) → Only IsLate (late c i)
late_only c (br_table ls d) = only_unless IsLate (alike c.labels ls d) LabelsDiffer tt tt
late_only c (plain p) = late_plain c p
late_only c i = tt

one_only : (t : ValType) (e : Bool) (s : List Operand) → Only IsOfOperands (take_one t e s)
one_only t e [] = only_unless IsOfOperands e MissingOperand [] tt
one_only t e (None ∷ s) = tt
one_only t e (Some u ∷ s) = only_unless IsOfOperands (same t u) OtherType s tt

all_only : (ts : List ValType) (e : Bool) (s : List Operand) → Only IsOfOperands (take_all ts e s)
all_only [] e s = tt
all_only (t ∷ ts) e s = only_onward IsOfOperands (take_one t e s) (take_all ts e) (one_only t e s) (λ s. all_only ts e s)

any_only : (e : Bool) (s : List Operand) → Only IsOfOperands (take_any e s)
any_only e [] = only_unless IsOfOperands e MissingOperand (None, []) tt
any_only e (k ∷ s) = tt

joined_only : (k m : Operand) → Only IsOfOperands (joined k m)
joined_only None m = tt
joined_only (Some t) None = tt
joined_only (Some t) (Some u) = only_unless IsOfOperands (same t u) OtherType (Some t) tt

acted_only : (s : Shape) (e : Bool) (ks : List Operand) → Only IsOfOperands (acted s e ks)
acted_only (Fixed ts gs) e ks = only_onward IsOfOperands (take_all ts e ks) _ (all_only ts e ks) (λ x. tt)
acted_only (Leaves ts) e ks = only_onward IsOfOperands (take_all ts e ks) _ (all_only ts e ks) (λ x. tt)
acted_only AnyOne e ks = only_onward IsOfOperands (take_any e ks) _ (any_only e ks) (λ x. tt)
acted_only TwoAlike e ks =
    only_onward IsOfOperands (take_one I32 e ks) _ (one_only I32 e ks) (λ s1.
    only_onward IsOfOperands (take_any e s1) _ (any_only e s1) (λ p.
    only_onward IsOfOperands (take_any e p.1) _ (any_only e p.1) (λ q.
    only_onward IsOfOperands (joined p.0 q.0) _ (joined_only p.0 q.0) (λ k. tt))))

-- what a plain instruction takes
takes_plain : (base : Context) (o : Open) (os : List Open) (i : Instruction) (s : Shape) (takes : List ValType) → shape (standing base (o ∷ os)) i ≡ Ok s → Takes base (o ∷ os) i takes → Needs s takes
takes_plain base o os (block r) s takes e t = cc
takes_plain base o os (loop r) s takes e t = cc
takes_plain base o os (if_block r) s takes e t = cc
takes_plain base o os else_mark s takes e t = cc
takes_plain base o os end_mark s takes e t = cc
takes_plain base o os i s takes e t = subst (λ s. Needs s takes) (ok_is (sym t.1 ∙ e)) t.2

plain_takes : (base : Context) (o : Open) (os : List Open) (i : Instruction) (s : Shape) (takes : List ValType) → shape (standing base (o ∷ os)) i ≡ Ok s → Needs s takes → Takes base (o ∷ os) i takes
plain_takes base o os (block r) s takes e n = cc
plain_takes base o os (loop r) s takes e n = cc
plain_takes base o os (if_block r) s takes e n = cc
plain_takes base o os else_mark s takes e n = cc
plain_takes base o os end_mark s takes e n = cc
plain_takes base o os i s takes e n = (s, e, n)

plain_over : (base : Context) (c : Context) (os : List Open) (i : Instruction) (s : Shape) → shape c i ≡ Ok s → LeavesOver os i → ⊥
plain_over base c os else_mark s e h = cc
plain_over base c os end_mark s e h = cc
plain_over base c [] i s e h = h
plain_over base c (o ∷ os) i s e h = h

some_all : (ls : List Level) → (os : List Open) × StandAll ls os
some_all [] = ([], no_block)
some_all (l ∷ ls) =
    let t = some_stack l.endless l.operands in
    let r = some_all ls in
    (open_of l t.0 ∷ r.0, a_block t.1 r.1)

small_early : (r : Rule) → IsEarly r → number r ≤ 7
small_early NoType h = omega arith
small_early NoFunction h = omega arith
small_early NoTable h = omega arith
small_early NoMemory h = omega arith
small_early NoGlobal h = omega arith
small_early NoLocal h = omega arith
small_early NoLabel h = omega arith
small_early r h = absurd h

breaks_early : (r : Rule) → IsEarly r → (base : Context) (os : List Open) (i : Instruction) → shape (standing base os) i ≡ Err r → Breaks r base os i
breaks_early NoType h base os i q = q
breaks_early NoFunction h base os i q = q
breaks_early NoTable h base os i q = q
breaks_early NoMemory h base os i q = q
breaks_early NoGlobal h base os i q = q
breaks_early NoLocal h base os i q = q
breaks_early NoLabel h base os i q = q
breaks_early r h base os i q = absurd h

early_breaks : (r : Rule) → IsEarly r → (base : Context) (os : List Open) (i : Instruction) → Breaks r base os i → shape (standing base os) i ≡ Err r
early_breaks NoType h base os i q = q
early_breaks NoFunction h base os i q = q
early_breaks NoTable h base os i q = q
early_breaks NoMemory h base os i q = q
early_breaks NoGlobal h base os i q = q
early_breaks NoLocal h base os i q = q
early_breaks NoLabel h base os i q = q
early_breaks r h base os i q = absurd h

module _ (base : Context) (l : Level) (ls : List Level) (i : Instruction) where
  -- the rule isn't always broken
  record Spared (r : Rule) : Type 0 where
    types : List ValType
    stands : Stands l.endless l.operands types
    free : (os : List Open) → StandAll ls os → Breaks r base (open_of l types ∷ os) i → ⊥

  -- the rules of lower numbers, each with what spares it
  below : (n : ℕ) → n ≤ 20 → ((r : Rule) → IsEarly r → number r < n → Spared r) → (8 < n → Spared OtherType) → (9 < n → Spared MissingOperand) → (10 < n → Spared OperandsLeft) → (11 < n → Spared Alignment) → (12 < n → Spared ConstantGlobal) → (19 < n → Spared LabelsDiffer) → (r : Rule) → number r < n → Spared r
  below n le early other missing left align constant differ Nesting h = let s = some_stack l.endless l.operands in record { types = s.0; stands = s.1; free = λ os sa b. b }
  below n le early other missing left align constant differ NoType h = early NoType tt h
  below n le early other missing left align constant differ NoFunction h = early NoFunction tt h
  below n le early other missing left align constant differ NoTable h = early NoTable tt h
  below n le early other missing left align constant differ NoMemory h = early NoMemory tt h
  below n le early other missing left align constant differ NoGlobal h = early NoGlobal tt h
  below n le early other missing left align constant differ NoLocal h = early NoLocal tt h
  below n le early other missing left align constant differ NoLabel h = early NoLabel tt h
  below n le early other missing left align constant differ OtherType h = other h
  below n le early other missing left align constant differ MissingOperand h = missing h
  below n le early other missing left align constant differ OperandsLeft h = left h
  below n le early other missing left align constant differ Alignment h = align h
  below n le early other missing left align constant differ ConstantGlobal h = constant h
  below n le early other missing left align constant differ LabelsDiffer h = differ h
  below n le early other missing left align constant differ IfWithoutElse h = absurd (omega arith)
  below n le early other missing left align constant differ TwoResults h = absurd (omega arith)
  below n le early other missing left align constant differ Initializer h = let s = some_stack l.endless l.operands in record { types = s.0; stands = s.1; free = λ os sa b. b }
  below n le early other missing left align constant differ Size h = let s = some_stack l.endless l.operands in record { types = s.0; stands = s.1; free = λ os sa b. b }
  below n le early other missing left align constant differ SecondMemory h = let s = some_stack l.endless l.operands in record { types = s.0; stands = s.1; free = λ os sa b. b }
  below n le early other missing left align constant differ SecondTable h = let s = some_stack l.endless l.operands in record { types = s.0; stands = s.1; free = λ os sa b. b }
  below n le early other missing left align constant differ RepeatedName h = let s = some_stack l.endless l.operands in record { types = s.0; stands = s.1; free = λ os sa b. b }
  below n le early other missing left align constant differ StartType h = let s = some_stack l.endless l.operands in record { types = s.0; stands = s.1; free = λ os sa b. b }

  -- what a rule needs
  record Why (rule : Rule) : Type 0 where
    always : (types : List ValType) (os : List Open) → Stands l.endless l.operands types → StandAll ls os → Breaks rule base (open_of l types ∷ os) i
    spared : (r : Rule) → number r < number rule → Spared r

  why_is_rule : (rule : Rule) (start : List Instruction) → steps base (at_start base.returns) start ≡ Ok (l ∷ ls) → Why rule → IsRule base start i rule
  why_is_rule rule start q w =
      record {
        breaks = λ os m.
            let f = first_of_all l ls os (may_be_stands base start (l ∷ ls) os q m) in
            subst (λ o. Breaks rule base o i) (sym f.is) (w.always f.types f.others f.stands f.rest);
        least = λ r h all.
            let s = w.spared r h in
            let o = some_all ls in
            s.free o.0 o.1 (all (open_of l s.types ∷ o.0) (stands_may_be base start (l ∷ ls) (open_of l s.types ∷ o.0) q (a_block s.stands o.1)));
      }

  early_ok : (s : Shape) → shape (around base (l ∷ ls)) i ≡ Ok s → (r : Rule) → IsEarly r → Spared r
  early_ok s has r h =
      let t = some_stack l.endless l.operands in
      record {
        types = t.0;
        stands = t.1;
        free = λ os sa b.
            let q : shape (around base (l ∷ ls)) i ≡ Err r = subst (λ c. shape c i ≡ Err r) (same_around base (l ∷ ls) (open_of l t.0 ∷ os) (a_block t.1 sa)) (early_breaks r h base (open_of l t.0 ∷ os) i b) in
            cc;
      }

  early_no : ((c : Context) → shape c i ≡ Err Nesting) → (r : Rule) → IsEarly r → Spared r
  early_no none r h =
      let t = some_stack l.endless l.operands in
      record {
        types = t.0;
        stands = t.1;
        free = λ os sa b.
            let c = standing base (open_of l t.0 ∷ os) in
            let e : ◌≡◌ {A = Result Shape Rule} (Err r) (Err Nesting) = sym (early_breaks r h base (open_of l t.0 ∷ os) i b) ∙ none c in
            let q : r ≡ Nesting = cc in
            subst IsEarly q h;
      }

  why_early : (rule : Rule) → IsEarly rule → shape (around base (l ∷ ls)) i ≡ Err rule → Why rule
  why_early rule h q =
      let n = small_early rule h in
      record {
        always = λ types os st sa. breaks_early rule h base (open_of l types ∷ os) i (subst (λ c. shape c i ≡ Err rule) (sym (same_around base (l ∷ ls) (open_of l types ∷ os) (a_block st sa))) q);
        spared = below (number rule) (omega arith)
            (λ r g lt.
            let t = some_stack l.endless l.operands in
            record {
              types = t.0;
              stands = t.1;
              free = λ os sa b.
                  let p : shape (around base (l ∷ ls)) i ≡ Err r = subst (λ c. shape c i ≡ Err r) (same_around base (l ∷ ls) (open_of l t.0 ∷ os) (a_block t.1 sa)) (early_breaks r g base (open_of l t.0 ∷ os) i b) in
                  let e : r ≡ rule = cc in
                  let m = ap number e in
                  omega arith;
            })
            (λ h. absurd (omega arith)) (λ h. absurd (omega arith)) (λ h. absurd (omega arith)) (λ h. absurd (omega arith)) (λ h. absurd (omega arith)) (λ h. absurd (omega arith));
      }

  -- an instruction with a shape
  module _ (s : Shape) (has : shape (around base (l ∷ ls)) i ≡ Ok s) where
    has_in : (types : List ValType) (os : List Open) → Stands l.endless l.operands types → StandAll ls os → shape (standing base (open_of l types ∷ os)) i ≡ Ok s
    has_in types os st sa = subst (λ c. shape c i ≡ Ok s) (sym (same_around base (l ∷ ls) (open_of l types ∷ os) (a_block st sa))) has

    spare_other : Agree s l.endless l.operands → Spared OtherType
    spare_other a = record { types = a.types; stands = a.stands; free = λ os sa b. b a.takes (plain_takes base (open_of l a.types) os i s a.takes (has_in a.types os a.stands sa) a.needs) a.agrees }

    spare_missing : Fine s l.endless l.operands → Spared MissingOperand
    spare_missing a = record {
      types = a.types;
      stands = a.stands;
      free = λ os sa b.
          let h = b a.takes (plain_takes base (open_of l a.types) os i s a.takes (has_in a.types os a.stands sa) a.needs) in
          omega (arith, h, a.serves.enough);
    }

    agree_of : Fine s l.endless l.operands → Agree s l.endless l.operands
    agree_of a = record { types = a.types; takes = a.takes; stands = a.stands; needs = a.needs; agrees = a.serves.agrees }

    spare_left : Spared OperandsLeft
    spare_left =
        let t = some_stack l.endless l.operands in
        record { types = t.0; stands = t.1; free = λ os sa b. plain_over base (around base (l ∷ ls)) (open_of l t.0 ∷ os) i s has b }

    why_operands : (rule : Rule) → IsOfOperands rule → acted s l.endless l.operands ≡ Err rule → Why rule
    why_operands OtherType h q =
        record {
          always = λ types os st sa takes t a. shape_other s l.endless l.operands types takes q st (takes_plain base (open_of l types) os i s takes (has_in types os st sa) t) a;
          spared = below 8 (omega arith) (λ r g lt. early_ok s has r g) (λ h. absurd (omega arith)) (λ h. absurd (omega arith)) (λ h. absurd (omega arith)) (λ h. absurd (omega arith)) (λ h. absurd (omega arith)) (λ h. absurd (omega arith));
        }
    why_operands MissingOperand h q =
        record {
          always = λ types os st sa takes t. shape_missing s l.endless l.operands types takes q st (takes_plain base (open_of l types) os i s takes (has_in types os st sa) t);
          spared = below 9 (omega arith) (λ r g lt. early_ok s has r g) (λ _. spare_other (shape_agree s l.endless l.operands q)) (λ h. absurd (omega arith)) (λ h. absurd (omega arith)) (λ h. absurd (omega arith)) (λ h. absurd (omega arith)) (λ h. absurd (omega arith));
        }
    why_operands rule h q = absurd h

    late_in : (r : Rule) (types : List ValType) (os : List Open) → Stands l.endless l.operands types → StandAll ls os → late (around base (l ∷ ls)) i ≡ Err r → late (standing base (open_of l types ∷ os)) i ≡ Err r
    late_in r types os st sa q = subst (λ c. late c i ≡ Err r) (sym (same_around base (l ∷ ls) (open_of l types ∷ os) (a_block st sa))) q

    why_late : (rule : Rule) (p : Bool × List Operand) → IsLate rule → acted s l.endless l.operands ≡ Ok p → late (around base (l ∷ ls)) i ≡ Err rule → Why rule
    why_late Alignment p h q g =
        let f = shape_fine s l.endless l.operands p q in
        record {
          always = λ types os st sa. late_in Alignment types os st sa g;
          spared = below 11 (omega arith) (λ r g lt. early_ok s has r g) (λ _. spare_other (agree_of f)) (λ _. spare_missing f) (λ _. spare_left) (λ h. absurd (omega arith)) (λ h. absurd (omega arith)) (λ h. absurd (omega arith));
        }
    why_late ConstantGlobal p h q g =
        let f = shape_fine s l.endless l.operands p q in
        let t = some_stack l.endless l.operands in
        record {
          always = λ types os st sa. late_in ConstantGlobal types os st sa g;
          spared = below 12 (omega arith) (λ r g lt. early_ok s has r g) (λ _. spare_other (agree_of f)) (λ _. spare_missing f) (λ _. spare_left)
              (λ _. record { types = t.0; stands = t.1; free = λ os sa b. let x = late_in ConstantGlobal t.0 os t.1 sa g in cc })
              (λ h. absurd (omega arith)) (λ h. absurd (omega arith));
        }
    why_late LabelsDiffer p h q g =
        let f = shape_fine s l.endless l.operands p q in
        let t = some_stack l.endless l.operands in
        record {
          always = λ types os st sa. late_in LabelsDiffer types os st sa g;
          spared = below 19 (omega arith) (λ r g lt. early_ok s has r g) (λ _. spare_other (agree_of f)) (λ _. spare_missing f) (λ _. spare_left)
              (λ _. record { types = t.0; stands = t.1; free = λ os sa b. let x = late_in LabelsDiffer t.0 os t.1 sa g in cc })
              (λ _. record { types = t.0; stands = t.1; free = λ os sa b. let x = late_in LabelsDiffer t.0 os t.1 sa g in cc })
              (λ h. absurd (omega arith));
        }
    why_late rule p h q g = absurd h

  why_plain : (rule : Rule) → is_simple i ≡ true → plainly (around base (l ∷ ls)) i (l ∷ ls) ≡ Err rule → Why rule
  why_plain rule e q =
      let c = around base (l ∷ ls) in
      elim (onward_err (shape c i) _ rule q) [
        | inl x ↦ why_early rule (only_is IsEarly (shape c i) rule (early_shape c i e) x) x
        | inr x ↦ elim (onward_err (on_top x.0 (l ∷ ls)) _ rule x.2) [
          | inl y ↦ elim (onward_err (acted x.0 l.endless l.operands) _ rule y) [
            | inl z ↦ why_operands x.0 x.1 rule (only_is IsOfOperands (acted x.0 l.endless l.operands) rule (acted_only x.0 l.endless l.operands) z) z
            | inr z ↦ let k = z.2 in cc
          ]
          | inr y ↦ elim (onward_err (late c i) _ rule y.2) [
            | inl z ↦
                let p = onward_ok (acted x.0 l.endless l.operands) _ y.0 y.1 in
                why_late x.0 x.1 rule p.0 (only_is IsLate (late c i) rule (late_only c i) z) p.1 z
            | inr z ↦ let k = z.2 in cc
          ]
        ]
      ]

  -- an instruction that closes an arm or a block
  module _ (none : (c : Context) → shape c i ≡ Err Nesting) (takes_is : (o : Open) (os : List Open) (takes : List ValType) → Takes base (o ∷ os) i takes → takes ≡ listed o.result) (is_takes : (o : Open) (os : List Open) → Takes base (o ∷ os) i (listed o.result)) (over : (o : Open) (os : List Open) → length (listed o.result) < length o.types → LeavesOver (o ∷ os) i) where
    spare_agree : (us : List ValType) → Stands l.endless l.operands us → Agrees (listed l.result) us → Spared OtherType
    spare_agree us st a = record { types = us; stands = st; free = λ os sa b. b (listed l.result) (is_takes (open_of l us) os) a }

    spare_enough : (us : List ValType) → Stands l.endless l.operands us → length (listed l.result) ≤ length us → Spared MissingOperand
    spare_enough us st n = record { types = us; stands = st; free = λ os sa b. let h = b (listed l.result) (is_takes (open_of l us) os) in omega (arith, h, n) }

    left_is : (s : List Operand) (rule : Rule) → nothing_left s ≡ Err rule → (k : Operand) × (s' : List Operand) × (s ≡ k ∷ s') × (rule ≡ OperandsLeft)
    left_is [] rule q = cc
    left_is (k ∷ s) rule q = (k, s, refl, let e : rule ≡ OperandsLeft = cc in e)

    why_close : (rule : Rule) → closes l.result l.endless l.operands ≡ Err rule → Why rule
    why_close rule q =
        elim (onward_err (take_all (listed l.result) l.endless l.operands) nothing_left rule q) [
          | inl x ↦ taken rule (only_is IsOfOperands (take_all (listed l.result) l.endless l.operands) rule (all_only (listed l.result) l.endless l.operands) x) x
          | inr x ↦
              let f = left_is x.0 rule x.2 in
              let a = all_serve (listed l.result) l.endless l.operands x.0 x.1 in
              let e : take_all (listed l.result) l.endless l.operands ≡ Ok (f.0 ∷ f.1) = x.1 ∙ ap (λ s. Ok s) f.2 in
              subst Why (sym f.3) (record {
                always = λ types os st sa. over (open_of l types) os (all_left (listed l.result) l.endless l.operands f.0 f.1 types e st);
                spared = below 10 (omega arith) (λ r g lt. early_no none r g) (λ _. spare_agree a.0 a.1 a.2.agrees) (λ _. spare_enough a.0 a.1 a.2.enough) (λ h. absurd (omega arith)) (λ h. absurd (omega arith)) (λ h. absurd (omega arith)) (λ h. absurd (omega arith));
              })
        ]
      where
        taken : (rule : Rule) → IsOfOperands rule → take_all (listed l.result) l.endless l.operands ≡ Err rule → Why rule
        taken OtherType h x =
            record {
              always = λ types os st sa takes t a. all_other (listed l.result) l.endless l.operands types x st (subst (λ ts. Agrees ts types) (takes_is (open_of l types) os takes t) a);
              spared = below 8 (omega arith) (λ r g lt. early_no none r g) (λ h. absurd (omega arith)) (λ h. absurd (omega arith)) (λ h. absurd (omega arith)) (λ h. absurd (omega arith)) (λ h. absurd (omega arith)) (λ h. absurd (omega arith));
            }
        taken MissingOperand h x =
            let a = all_missing_agree (listed l.result) l.endless l.operands x in
            record {
              always = λ types os st sa takes t. rw (takes_is (open_of l types) os takes t) (all_missing (listed l.result) l.endless l.operands types x st);
              spared = below 9 (omega arith) (λ r g lt. early_no none r g) (λ _. spare_agree a.0 a.1 a.2) (λ h. absurd (omega arith)) (λ h. absurd (omega arith)) (λ h. absurd (omega arith)) (λ h. absurd (omega arith)) (λ h. absurd (omega arith));
            }
        taken rule h x = absurd h

module _ (base : Context) (l : Level) (ls : List Level) where
  why_if : (r : Option ValType) (rule : Rule) → IsOfOperands rule → take_all (I32 ∷ []) l.endless l.operands ≡ Err rule → Why base l ls (if_block r) rule
  why_if r OtherType h x =
      record {
        always = λ types os st sa takes t a. all_other (I32 ∷ []) l.endless l.operands types x st (subst (λ ts. Agrees ts types) t a);
        spared = below base l ls (if_block r) 8 (omega arith) (λ r1 g lt. early_no base l ls (if_block r) (λ c. refl) r1 g) (λ h. absurd (omega arith)) (λ h. absurd (omega arith)) (λ h. absurd (omega arith)) (λ h. absurd (omega arith)) (λ h. absurd (omega arith)) (λ h. absurd (omega arith));
      }
  why_if r MissingOperand h x =
      let a = all_missing_agree (I32 ∷ []) l.endless l.operands x in
      record {
        always = λ types os st sa takes t. rw t (all_missing (I32 ∷ []) l.endless l.operands types x st);
        spared = below base l ls (if_block r) 9 (omega arith) (λ r1 g lt. early_no base l ls (if_block r) (λ c. refl) r1 g) (λ _. record { types = a.0; stands = a.1; free = λ os sa b. b (I32 ∷ []) refl a.2 }) (λ h. absurd (omega arith)) (λ h. absurd (omega arith)) (λ h. absurd (omega arith)) (λ h. absurd (omega arith)) (λ h. absurd (omega arith));
      }
  why_if r rule h x = absurd h

  opens_fine : (o : Opening) (r : Option ValType) (s : Shape) (rule : Rule) → onward (on_top s (l ∷ ls)) (opened o r) ≡ Err rule → acted s l.endless l.operands ≡ Err rule
  opens_fine o r s rule q = by (acted s l.endless l.operands) q
    where
      by : (a : Result (Bool × List Operand) Rule) → onward (onward a (λ p. Ok (record l { endless = p.0; operands = p.1 } ∷ ls))) (opened o r) ≡ Err rule → a ≡ Err rule
      by (Ok p) q = cc
      by (Err e) q = let h : e ≡ rule = cc in ap (λ r. Err r) h

  may_end_rule : (o : Opening) (r : Option ValType) (rule : Rule) → may_end o r ≡ Err rule → rule ≡ IfWithoutElse
  may_end_rule FirstArm (Some t) rule q = let e : rule ≡ IfWithoutElse = cc in e
  may_end_rule FirstArm None rule q = cc
  may_end_rule Straight r rule q = cc
  may_end_rule Back r rule q = cc

  may_turn_rule : (o : Opening) (rule : Rule) → may_turn o ≡ Err rule → rule ≡ Nesting
  may_turn_rule FirstArm rule q = cc
  may_turn_rule Straight rule q = let e : rule ≡ Nesting = cc in e
  may_turn_rule Back rule q = let e : rule ≡ Nesting = cc in e

  why_end : (u : Unit {0}) → closes l.result l.endless l.operands ≡ Ok u → may_end l.opening l.result ≡ Err IfWithoutElse → Why base l ls end_mark IfWithoutElse
  why_end u q m =
      let st = closes_only l.result l.endless l.operands u q in
      let same = subst (λ x. Agrees (listed l.result) x) (append-nil (listed l.result)) (agrees_front (listed l.result) []) in
      record {
        always = λ types os st sa. m;
        spared = below base l ls end_mark 20 (omega arith) (λ r g lt. early_no base l ls end_mark (λ c. refl) r g)
            (λ _. record { types = listed l.result; stands = st; free = λ os sa b. b (listed l.result) refl same })
            (λ _. record { types = listed l.result; stands = st; free = λ os sa b. let h = b (listed l.result) refl in omega (arith, h) })
            (λ _. record { types = listed l.result; stands = st; free = λ os sa b. omega (arith, b) })
            (λ _. record { types = listed l.result; stands = st; free = λ os sa b. cc })
            (λ _. record { types = listed l.result; stands = st; free = λ os sa b. cc })
            (λ _. record { types = listed l.result; stands = st; free = λ os sa b. cc });
      }

  why : (i : Instruction) (rule : Rule) → step base (l ∷ ls) i ≡ Err rule → rule ≢ Nesting → Why base l ls i rule
  why (block r) rule q n = cc
  why (loop r) rule q n = cc
  why (if_block r) rule q n =
      let a = opens_fine FirstArm r (Fixed (I32 ∷ []) []) rule q in
      elim (onward_err (take_all (I32 ∷ []) l.endless l.operands) _ rule a) [
        | inl x ↦ why_if r rule (only_is IsOfOperands (take_all (I32 ∷ []) l.endless l.operands) rule (all_only (I32 ∷ []) l.endless l.operands) x) x
        | inr x ↦ let k = x.2 in cc
      ]
  why else_mark rule q n =
      elim (onward_err (may_turn l.opening) _ rule q) [
        | inl x ↦ absurd (n (may_turn_rule l.opening rule x))
        | inr x ↦ elim (onward_err (closes l.result l.endless l.operands) _ rule x.2) [
          | inl y ↦ why_close base l ls else_mark (λ c. refl) (λ o os takes t. t) (λ o os. refl) (λ o os h. h) rule y
          | inr y ↦ let k = y.2 in cc
        ]
      ]
  why end_mark rule q n =
      elim (onward_err (closes l.result l.endless l.operands) _ rule q) [
        | inl x ↦ why_close base l ls end_mark (λ c. refl) (λ o os takes t. t) (λ o os. refl) (λ o os h. h) rule x
        | inr x ↦ elim (onward_err (may_end l.opening l.result) _ rule x.2) [
          | inl y ↦
              let e = may_end_rule l.opening l.result rule y in
              subst (Why base l ls end_mark) (sym e) (why_end x.0 x.1 (y ∙ ap (λ r. Err r) e))
          | inr y ↦ let k = y.2 in cc
        ]
      ]
  why i rule q n = why_plain base l ls i rule refl q

pub rule_is : (base : Context) (l : Level) (ls : List Level) (start : List Instruction) (i : Instruction) (rule : Rule) → steps base (at_start base.returns) start ≡ Ok (l ∷ ls) → step base (l ∷ ls) i ≡ Err rule → rule ≢ Nesting → IsRule base start i rule
rule_is base l ls start i rule q s n = why_is_rule base l ls i rule start q (why base l ls i rule s n)
