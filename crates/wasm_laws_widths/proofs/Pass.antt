-- The pass over typed code, by induction on its types.
use Rattle.std.proofs.Common.{◌≡◌, ℕ, ◌≤◌, max, Bool, List, [], ◌∷◌, ◌++◌, Option, None, refl, sym, ap, ◌∙◌, subst, arith}
use Rattle.std.proofs.lemmas.List.{append-nil}
use Rattle.std.specs.Prelude.{Ok}
use Rattle.wasm_lang.specs.declared.types.ValType.{ValType}
use Rattle.wasm_lang.specs.declared.types.ValType.TheVariants.{I32}
use Rattle.wasm_lang.specs.Instructions.{Instruction, block, loop, if_block, else_mark, end_mark}
use Rattle.wasm_lang_valid.specs.declared.rule.Opening.TheVariants.{Straight, Back, FirstArm}
use Rattle.wasm_lang_valid.specs.Typing.{Context, inside, onward, shape, late, may_end, Shape, Fixed, fixed, listed, Typed, typed_empty, typed_plain, typed_block, typed_loop, typed_arms, typed_if}
use Rattle.wasm_lang_valid.specs.State.{Level, fresh, around, known, on_top, opened, given, plainly, step, steps}
use Rattle.wasm_lang_valid.specs.Measures.{standing, after as counted, peak}
use Rattle.wasm_lang_valid.proofs.Stands.{Stands, onward_ok, shape_goes, closes_where, known_stands}
use Rattle.wasm_laws_widths.specs.Laws.{TypedCodePasses, PeakIsKept, PeakIsAbove}

-- ---- counts

pub peak_is_above : PeakIsAbove
peak_is_above base i code ls = max_left (standing ls) (counted (step base ls i) (λ next. peak base next code))
  where
    max_left : (a b : ℕ) → a ≤ max a b
    max_left a b = omega arith

further : (a b d : ℕ) → d ≤ b → d ≤ max a b
further a b d h = omega (arith, h)

pub peak_is_kept : PeakIsKept
peak_is_kept base [] rest ls next e =
    let same : ls ≡ next = cc e in
    subst (λ n. peak base n rest ≤ peak base ls rest) same (omega arith)
peak_is_kept base (i ∷ is) rest ls next e =
    let a = onward_ok (step base ls i) (λ mid. steps base mid is) next e in
    let h = peak_is_kept base is rest a.0 next a.2 in
    further (standing ls) (counted (step base ls i) (λ mid. peak base mid (is ++ rest))) (peak base next rest)
    (subst (λ r. peak base next rest ≤ counted r (λ mid. peak base mid (is ++ rest))) (sym a.1) h)

-- ---- steps

steps_append : (base : Context) (ls mid : List Level) (a b : List Instruction) → steps base ls a ≡ Ok mid → steps base ls (a ++ b) ≡ steps base mid b
steps_append base ls mid [] b e = let same : ls ≡ mid = cc e in ap (λ l. steps base l b) same
steps_append base ls mid (i ∷ is) b e =
    let a = onward_ok (step base ls i) (λ next. steps base next is) mid e in
    ap (λ r. onward r (λ next. steps base next (is ++ b))) a.1 ∙ steps_append base a.0 mid is b a.2

first_step : (base : Context) (ls mid : List Level) (i : Instruction) (is : List Instruction) → step base ls i ≡ Ok mid → steps base ls (i ∷ is) ≡ steps base mid is
first_step base ls mid i is e = ap (λ r. onward r (λ next. steps base next is)) e

pub step_plain : (base : Context) (ls : List Level) (i : Instruction) (s : Shape) → shape (around base ls) i ≡ Ok s → step base ls i ≡ plainly (around base ls) i ls
step_plain base ls (block r) s e = cc
step_plain base ls (loop r) s e = cc
step_plain base ls (if_block r) s e = cc
step_plain base ls else_mark s e = cc
step_plain base ls end_mark s e = cc
step_plain base ls i s e = refl

-- ---- typed code

record Went (base : Context) (l : Level) (ls : List Level) (code : List Instruction) (after : List ValType) : Type 0 where
  last : Level
  goes_on : steps base (l ∷ ls) code ≡ Ok (last ∷ ls)
  same_opening : last.opening ≡ l.opening
  same_result : last.result ≡ l.result
  stands : Stands last.endless last.operands after

module _ (base : Context) where
  -- the rest of the code, in the same block with other operands
  then_went : (l l1 : Level) (ls : List Level) (code rest : List Instruction) (after : List ValType)
      → steps base (l ∷ ls) code ≡ steps base (l1 ∷ ls) rest → l1.opening ≡ l.opening → l1.result ≡ l.result → Went base l1 ls rest after → Went base l ls code after
  then_went l l1 ls code rest after e o r w = record {
    last = w.last;
    goes_on = e ∙ w.goes_on;
    same_opening = w.same_opening ∙ o;
    same_result = w.same_result ∙ r;
    stands = w.stands;
  }

  -- the end of a block that was gone over
  end_step : (l last : Level) (ls : List Level) (r : Option ValType) → last.result ≡ r → may_end last.opening r ≡ Ok tt → Stands last.endless last.operands (listed r)
      → step base (last ∷ l ∷ ls) end_mark ≡ Ok (given r (l ∷ ls))
  end_step l last ls r res may st =
      let c = closes_where r last.endless last.operands st in
      rw (res, c, may) refl

  turn_step : (l last : Level) (ls : List Level) (r : Option ValType) → last.opening ≡ FirstArm → last.result ≡ r → Stands last.endless last.operands (listed r)
      → step base (last ∷ l ∷ ls) else_mark ≡ Ok (fresh Straight r ∷ l ∷ ls)
  turn_step l last ls r o res st = let c = closes_where r last.endless last.operands st in rw (o, res, c) refl

  goes : (c : Context) (code : List Instruction) (before after : List ValType) → Typed c code before after
      → (l : Level) (ls : List Level) → around base (l ∷ ls) ≡ c → Stands l.endless l.operands before → Went base l ls code after
  goes c _ _ _ (typed_empty {ts = ts}) l ls e st = record { last = l; goes_on = refl; same_opening = refl; same_result = refl; stands = st }
  goes c _ _ _ (typed_plain {i = i} {rest = rest} {s = s} {takes = takes} {gives = gives} {after = after} below has acts keeps more) l ls e st =
      let has1 = subst (λ d. shape d i ≡ Ok s) (sym e) has in
      let late1 = subst (λ d. late d i ≡ Ok tt) (sym e) keeps in
      let a = shape_goes s takes gives acts l.endless l.operands below st in
      let l1 = record l { endless = a.0.0; operands = a.0.1 } in
      let one : step base (l ∷ ls) i ≡ Ok (l1 ∷ ls) = step_plain base (l ∷ ls) i s has1 ∙ rw (has1, a.1, late1) refl in
      then_went l l1 ls (i ∷ rest) rest after (first_step base (l ∷ ls) (l1 ∷ ls) i rest one) refl refl (goes c rest (gives ++ below) after more l1 ls e a.2)
  goes c _ before _ (typed_block {r = r} {body = body} {rest = rest} {after = after} inner more) l ls e st =
      let b = goes (inside r c) body [] (listed r) inner (fresh Straight r) (l ∷ ls) (ap (inside r) e) tt in
      let l1 = record l { operands = known (listed r) ++ l.operands } in
      let ends = end_step l b.last ls r b.same_result (ap (λ o. may_end o r) b.same_opening) b.stands in
      let path = first_step base (l ∷ ls) (fresh Straight r ∷ l ∷ ls) (block r) (body ++ end_mark ∷ rest) refl
      ∙ steps_append base (fresh Straight r ∷ l ∷ ls) (b.last ∷ l ∷ ls) body (end_mark ∷ rest) b.goes_on
      ∙ first_step base (b.last ∷ l ∷ ls) (l1 ∷ ls) end_mark rest ends in
      then_went l l1 ls (block r ∷ (body ++ end_mark ∷ rest)) rest after path refl refl (goes c rest (listed r ++ before) after more l1 ls e (known_stands (listed r) l.endless l.operands before st))
  goes c _ before _ (typed_loop {r = r} {body = body} {rest = rest} {after = after} inner more) l ls e st =
      let b = goes (inside None c) body [] (listed r) inner (fresh Back r) (l ∷ ls) (ap (inside None) e) tt in
      let l1 = record l { operands = known (listed r) ++ l.operands } in
      let ends = end_step l b.last ls r b.same_result (ap (λ o. may_end o r) b.same_opening) b.stands in
      let path = first_step base (l ∷ ls) (fresh Back r ∷ l ∷ ls) (loop r) (body ++ end_mark ∷ rest) refl
      ∙ steps_append base (fresh Back r ∷ l ∷ ls) (b.last ∷ l ∷ ls) body (end_mark ∷ rest) b.goes_on
      ∙ first_step base (b.last ∷ l ∷ ls) (l1 ∷ ls) end_mark rest ends in
      then_went l l1 ls (loop r ∷ (body ++ end_mark ∷ rest)) rest after path refl refl (goes c rest (listed r ++ before) after more l1 ls e (known_stands (listed r) l.endless l.operands before st))
  goes c _ _ _ (typed_arms {r = r} {first = first} {second = second} {rest = rest} {below = below} {after = after} one two more) l ls e st =
      let t = shape_goes (Fixed (I32 ∷ []) []) _ _ fixed l.endless l.operands below st in
      let l0 = record l { endless = t.0.0; operands = t.0.1 } in
      let q : on_top (Fixed (I32 ∷ []) []) (l ∷ ls) ≡ Ok (l0 ∷ ls) = ap (λ r. onward r (λ p. Ok (record l { endless = p.0; operands = p.1 } ∷ ls))) t.1 in
      let a = goes (inside r c) first [] (listed r) one (fresh FirstArm r) (l0 ∷ ls) (ap (inside r) e) tt in
      let turn = turn_step l0 a.last ls r a.same_opening a.same_result a.stands in
      let b = goes (inside r c) second [] (listed r) two (fresh Straight r) (l0 ∷ ls) (ap (inside r) e) tt in
      let l1 = record l0 { operands = known (listed r) ++ l0.operands } in
      let ends = end_step l0 b.last ls r b.same_result (ap (λ o. may_end o r) b.same_opening) b.stands in
      let path = first_step base (l ∷ ls) (fresh FirstArm r ∷ l0 ∷ ls) (if_block r) (first ++ else_mark ∷ (second ++ end_mark ∷ rest)) (ap (λ s. onward s (opened FirstArm r)) q)
      ∙ steps_append base (fresh FirstArm r ∷ l0 ∷ ls) (a.last ∷ l0 ∷ ls) first (else_mark ∷ (second ++ end_mark ∷ rest)) a.goes_on
      ∙ first_step base (a.last ∷ l0 ∷ ls) (fresh Straight r ∷ l0 ∷ ls) else_mark (second ++ end_mark ∷ rest) turn
      ∙ steps_append base (fresh Straight r ∷ l0 ∷ ls) (b.last ∷ l0 ∷ ls) second (end_mark ∷ rest) b.goes_on
      ∙ first_step base (b.last ∷ l0 ∷ ls) (l1 ∷ ls) end_mark rest ends in
      then_went l l1 ls (if_block r ∷ (first ++ else_mark ∷ (second ++ end_mark ∷ rest))) rest after path refl refl (goes c rest (listed r ++ below) after more l1 ls e (known_stands (listed r) l0.endless l0.operands below t.2))
  goes c _ _ _ (typed_if {body = body} {rest = rest} {below = below} {after = after} inner more) l ls e st =
      let t = shape_goes (Fixed (I32 ∷ []) []) _ _ fixed l.endless l.operands below st in
      let l0 = record l { endless = t.0.0; operands = t.0.1 } in
      let q : on_top (Fixed (I32 ∷ []) []) (l ∷ ls) ≡ Ok (l0 ∷ ls) = ap (λ r. onward r (λ p. Ok (record l { endless = p.0; operands = p.1 } ∷ ls))) t.1 in
      let b = goes (inside None c) body [] [] inner (fresh FirstArm None) (l0 ∷ ls) (ap (inside None) e) tt in
      let ends = end_step l0 b.last ls None b.same_result (ap (λ o. may_end o None) b.same_opening) b.stands in
      let path = first_step base (l ∷ ls) (fresh FirstArm None ∷ l0 ∷ ls) (if_block None) (body ++ end_mark ∷ rest) (ap (λ s. onward s (opened FirstArm None)) q)
      ∙ steps_append base (fresh FirstArm None ∷ l0 ∷ ls) (b.last ∷ l0 ∷ ls) body (end_mark ∷ rest) b.goes_on
      ∙ first_step base (b.last ∷ l0 ∷ ls) (l0 ∷ ls) end_mark rest ends in
      then_went l l0 ls (if_block None ∷ (body ++ end_mark ∷ rest)) rest after path refl refl (goes c rest below after more l0 ls e t.2)

known_are : (ts : List ValType) (e : Bool) → Stands e (known ts) ts
known_are ts e = subst (λ us. Stands e (known ts) us) (append-nil ts) (subst (λ s. Stands e s (ts ++ [])) (append-nil (known ts)) (known_stands ts e [] [] tt))

pub typed_code_passes : TypedCodePasses
typed_code_passes base c code before after typed l ls e is =
    let w = goes base c code before after typed l ls e (subst (λ s. Stands l.endless s before) (sym is) (known_are before l.endless)) in
    record {
      last = w.last;
      goes_on = w.goes_on;
      same_opening = w.same_opening;
      same_result = w.same_result;
      closes = λ r same. closes_where r w.last.endless w.last.operands (subst (λ ts. Stands w.last.endless w.last.operands ts) same w.stands);
    }
