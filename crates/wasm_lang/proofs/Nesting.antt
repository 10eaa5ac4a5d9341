-- A list of instructions that closes open blocks.
use Rattle.std.proofs.Common.{◌≡◌, ◌⊎◌, inl, inr, true, List, [], ◌∷◌, ◌++◌, refl, sym, ap, subst, ◌∙◌, append_assoc}
use Rattle.std.specs.Prelude.{Option, Some, None}
use Rattle.std.proofs.lemmas.Bool.{false≢true}
use Rattle.wasm_lang.specs.declared.types.ValType.{ValType}
use Rattle.wasm_lang.specs.Instructions.{Instruction, block, loop, if_block, else_mark, end_mark, is_simple, Nested, empty, simple, in_block, in_loop, in_if, in_arms, IsExpression}
use Rattle.wasm_lang.specs.ReadingCode.{Opening, straight, first_arm, may_turn, opened}

-- an instruction, and then such a list
pub record After (i : Instruction) (P : List Instruction → Type 0) (code : List Instruction) : Type 0 where
  pub rest : List Instruction
  pub is : code ≡ i ∷ rest
  pub then : P rest

-- nested instructions, and then such a list
pub record Begun (T : List Instruction → Type 0) (code : List Instruction) : Type 0 where
  pub inner : List Instruction
  pub tail : List Instruction
  pub is : code ≡ inner ++ tail
  pub nested : Nested inner
  pub then : T tail

-- what closes the blocks, once the innermost has nothing more inside it
abbrev pub Tail : List Opening → List Instruction → Type 0
Tail [] code = code ≡ end_mark ∷ []
Tail (straight ∷ os) code = After end_mark (Begun (Tail os)) code
Tail (first_arm ∷ os) code = After end_mark (Begun (Tail os)) code ⊎ After else_mark (Begun (After end_mark (Begun (Tail os)))) code

-- the list closes the blocks, and then the expression
abbrev pub Completes : List Opening → List Instruction → Type 0
Completes os code = Begun (Tail os) code

nested_append : (a b : List Instruction) → Nested a → Nested b → Nested (a ++ b)
nested_append a b empty n = n
nested_append a b (simple {i = i} {rest = rest} s m) n = simple s (nested_append rest b m n)
nested_append a b (in_block {r = r} {body = body} {rest = rest} k m) n =
    subst Nested (ap (λ (l : List Instruction). block r ∷ l) (sym (append_assoc body (end_mark ∷ rest) b))) (in_block k (nested_append rest b m n))
nested_append a b (in_loop {r = r} {body = body} {rest = rest} k m) n =
    subst Nested (ap (λ (l : List Instruction). loop r ∷ l) (sym (append_assoc body (end_mark ∷ rest) b))) (in_loop k (nested_append rest b m n))
nested_append a b (in_if {r = r} {body = body} {rest = rest} k m) n =
    subst Nested (ap (λ (l : List Instruction). if_block r ∷ l) (sym (append_assoc body (end_mark ∷ rest) b))) (in_if k (nested_append rest b m n))
nested_append a b (in_arms {r = r} {first = first} {second = second} {rest = rest} k l m) n =
    let e : first ++ else_mark ∷ (second ++ end_mark ∷ (rest ++ b)) ≡ (first ++ else_mark ∷ (second ++ end_mark ∷ rest)) ++ b =
    ap (λ (l : List Instruction). first ++ else_mark ∷ l) (sym (append_assoc second (end_mark ∷ rest) b)) ∙ sym (append_assoc first (else_mark ∷ (second ++ end_mark ∷ rest)) b) in
    subst Nested (ap (λ (l : List Instruction). if_block r ∷ l) e) (in_arms k l (nested_append rest b m n))

put : (T : List Instruction → Type 0) (front code : List Instruction) → Nested front → Begun T code → Begun T (front ++ code)
put T front code n b = record {
  inner = front ++ b.inner;
  tail = b.tail;
  is = ap (λ (l : List Instruction). front ++ l) b.is ∙ sym (append_assoc front b.inner b.tail);
  nested = nested_append front b.inner n b.nested;
  then = b.then;
}

put_simple : (T : List Instruction → Type 0) (i : Instruction) (code : List Instruction) → is_simple i ≡ true → Begun T code → Begun T (i ∷ code)
put_simple T i code s b = put T (i ∷ []) code (simple s empty) b

-- a block's content and its end, and then the rest
put_closed : (T : List Instruction → Type 0) (i : Instruction) (code : List Instruction) → ((body : List Instruction) → Nested body → Nested (i ∷ (body ++ end_mark ∷ []))) → Begun (After end_mark (Begun T)) code → Begun T (i ∷ code)
put_closed T i code close b =
    let e : i ∷ code ≡ (i ∷ (b.inner ++ end_mark ∷ [])) ++ b.then.rest =
    ap (λ (l : List Instruction). i ∷ l) (b.is ∙ ap (λ (l : List Instruction). b.inner ++ l) b.then.is ∙ sym (append_assoc b.inner (end_mark ∷ []) b.then.rest)) in
    subst (Begun T) (sym e) (put T (i ∷ (b.inner ++ end_mark ∷ [])) b.then.rest (close b.inner b.nested) b.then.then)

put_arms : (T : List Instruction → Type 0) (r : Option ValType) (code : List Instruction) → Begun (After else_mark (Begun (After end_mark (Begun T)))) code → Begun T (if_block r ∷ code)
put_arms T r code a =
    let b = a.then.then in
    let front : List Instruction = if_block r ∷ (a.inner ++ else_mark ∷ (b.inner ++ end_mark ∷ [])) in
    let e : if_block r ∷ code ≡ front ++ b.then.rest =
    ap (λ (l : List Instruction). if_block r ∷ l) (
    a.is
    ∙ ap (λ (l : List Instruction). a.inner ++ l) (a.then.is ∙ ap (λ (l : List Instruction). else_mark ∷ l) (b.is ∙ ap (λ (l : List Instruction). b.inner ++ l) b.then.is ∙ sym (append_assoc b.inner (end_mark ∷ []) b.then.rest)))
    ∙ sym (append_assoc a.inner (else_mark ∷ (b.inner ++ end_mark ∷ [])) b.then.rest)
    ) in
    subst (Begun T) (sym e) (put T front b.then.rest (in_arms a.nested b.nested empty) b.then.then)

at_once : (T : List Instruction → Type 0) (code : List Instruction) → T code → Begun T code
at_once T code t = record { inner = []; tail = code; is = refl; nested = empty; then = t }

-- what the rest has to close after an instruction, by the blocks that then stand open
abbrev pub Onward : Option (List Opening) → List Instruction → Type 0
Onward None code = code ≡ []
Onward (Some os) code = Completes os code

-- an else stands in the first arm of an if
abbrev pub TurnsWell : List Opening → Instruction → Type 0
TurnsWell os else_mark = may_turn os ≡ true
TurnsWell os i = Unit {0}

pub comes : (os : List Opening) (i : Instruction) (code : List Instruction) → TurnsWell os i → Onward (opened os i) code → Completes os (i ∷ code)
comes os (block r) code t h = put_closed (Tail os) (block r) code (λ body n. in_block n empty) h
comes os (loop r) code t h = put_closed (Tail os) (loop r) code (λ body n. in_loop n empty) h
comes os (if_block r) code t h = by h.then
  where
    by : Tail (first_arm ∷ os) h.tail → Completes os (if_block r ∷ code)
    by (inl x) = put_closed (Tail os) (if_block r) code (λ body n. in_if n empty) (record { inner = h.inner; tail = h.tail; is = h.is; nested = h.nested; then = x })
    by (inr x) = put_arms (Tail os) r code (record { inner = h.inner; tail = h.tail; is = h.is; nested = h.nested; then = x })
comes [] else_mark code t h = absurd (false≢true t)
comes (straight ∷ os) else_mark code t h = absurd (false≢true t)
comes (first_arm ∷ os) else_mark code t h = at_once (Tail (first_arm ∷ os)) (else_mark ∷ code) (inr (record { rest = code; is = refl; then = h }))
comes [] end_mark code t h = at_once (Tail []) (end_mark ∷ code) (ap (λ (l : List Instruction). end_mark ∷ l) h)
comes (straight ∷ os) end_mark code t h = at_once (Tail (straight ∷ os)) (end_mark ∷ code) (record { rest = code; is = refl; then = h })
comes (first_arm ∷ os) end_mark code t h = at_once (Tail (first_arm ∷ os)) (end_mark ∷ code) (inl (record { rest = code; is = refl; then = h }))
comes os i code t h = put_simple (Tail os) i code refl h

simple_opens : (os : List Opening) (i : Instruction) → is_simple i ≡ true → opened os i ≡ Some os
simple_opens os (block r) s = absurd (false≢true s)
simple_opens os (loop r) s = absurd (false≢true s)
simple_opens os (if_block r) s = absurd (false≢true s)
simple_opens os else_mark s = absurd (false≢true s)
simple_opens os end_mark s = absurd (false≢true s)
simple_opens os i s = refl

simple_turns : (os : List Opening) (i : Instruction) → is_simple i ≡ true → TurnsWell os i
simple_turns os else_mark s = absurd (false≢true s)
simple_turns os i s = tt

-- what an instruction that completes blocks with this rest says
abbrev GoesOn : List Opening → Instruction → List Instruction → Type 0
GoesOn os i code = Onward (opened os i) code × TurnsWell os i

heads : {X : Type 0} {x y : X} {xs ys : List X} → ◌≡◌ {A = List X} (x ∷ xs) (y ∷ ys) → x ≡ y
heads e = cc

tails : {X : Type 0} {x y : X} {xs ys : List X} → ◌≡◌ {A = List X} (x ∷ xs) (y ∷ ys) → xs ≡ ys
tails e = cc

goes_at : (os : List Opening) (i k : Instruction) (code rest : List Instruction) → i ∷ code ≡ k ∷ rest → GoesOn os k rest → GoesOn os i code
goes_at os i k code rest e h = subst (λ c. GoesOn os i c) (sym (tails e)) (subst (λ i. GoesOn os i rest) (sym (heads e)) h)

goes_tail : (os : List Opening) (i : Instruction) (code : List Instruction) → Tail os (i ∷ code) → GoesOn os i code
goes_tail [] i code t = goes_at [] i end_mark code [] t (refl, tt)
goes_tail (straight ∷ os) i code t = goes_at (straight ∷ os) i end_mark code t.rest t.is (t.then, tt)
goes_tail (first_arm ∷ os) i code (inl t) = goes_at (first_arm ∷ os) i end_mark code t.rest t.is (t.then, tt)
goes_tail (first_arm ∷ os) i code (inr t) = goes_at (first_arm ∷ os) i else_mark code t.rest t.is (t.then, refl)

-- the rest after a block's end
after_end : (os : List Opening) (rest tail : List Instruction) → Nested rest → Tail os tail → After end_mark (Begun (Tail os)) (end_mark ∷ (rest ++ tail))
after_end os rest tail n t = record { rest = rest ++ tail; is = refl; then = record { inner = rest; tail = tail; is = refl; nested = n; then = t } }

goes_by : (os : List Opening) (i : Instruction) (code inner tail : List Instruction) → Nested inner → i ∷ code ≡ inner ++ tail → Tail os tail → GoesOn os i code
goes_by os i code inner tail empty e t = goes_tail os i code (subst (Tail os) (sym e) t)
goes_by os i code inner tail (simple {i = k} {rest = rest} s n) e t =
    let h : Completes os (rest ++ tail) = record { inner = rest; tail = tail; is = refl; nested = n; then = t } in
    goes_at os i k code (rest ++ tail) e (subst (λ o. Onward o (rest ++ tail)) (sym (simple_opens os k s)) h, simple_turns os k s)
goes_by os i code inner tail (in_block {r = r} {body = body} {rest = rest} m n) e t =
    let h : Completes (straight ∷ os) ((body ++ end_mark ∷ rest) ++ tail) = record { inner = body; tail = end_mark ∷ (rest ++ tail); is = append_assoc body (end_mark ∷ rest) tail; nested = m; then = after_end os rest tail n t } in
    goes_at os i (block r) code ((body ++ end_mark ∷ rest) ++ tail) e (h, tt)
goes_by os i code inner tail (in_loop {r = r} {body = body} {rest = rest} m n) e t =
    let h : Completes (straight ∷ os) ((body ++ end_mark ∷ rest) ++ tail) = record { inner = body; tail = end_mark ∷ (rest ++ tail); is = append_assoc body (end_mark ∷ rest) tail; nested = m; then = after_end os rest tail n t } in
    goes_at os i (loop r) code ((body ++ end_mark ∷ rest) ++ tail) e (h, tt)
goes_by os i code inner tail (in_if {r = r} {body = body} {rest = rest} m n) e t =
    let h : Completes (first_arm ∷ os) ((body ++ end_mark ∷ rest) ++ tail) = record { inner = body; tail = end_mark ∷ (rest ++ tail); is = append_assoc body (end_mark ∷ rest) tail; nested = m; then = inl (after_end os rest tail n t) } in
    goes_at os i (if_block r) code ((body ++ end_mark ∷ rest) ++ tail) e (h, tt)
goes_by os i code inner tail (in_arms {r = r} {first = first} {second = second} {rest = rest} m l n) e t =
    let arm : Begun (After end_mark (Begun (Tail os))) ((second ++ end_mark ∷ rest) ++ tail) = record { inner = second; tail = end_mark ∷ (rest ++ tail); is = append_assoc second (end_mark ∷ rest) tail; nested = l; then = after_end os rest tail n t } in
    let h : Completes (first_arm ∷ os) ((first ++ else_mark ∷ (second ++ end_mark ∷ rest)) ++ tail) = record {
      inner = first;
      tail = else_mark ∷ ((second ++ end_mark ∷ rest) ++ tail);
      is = append_assoc first (else_mark ∷ (second ++ end_mark ∷ rest)) tail;
      nested = m;
      then = inr (record { rest = (second ++ end_mark ∷ rest) ++ tail; is = refl; then = arm });
    } in
    goes_at os i (if_block r) code ((first ++ else_mark ∷ (second ++ end_mark ∷ rest)) ++ tail) e (h, tt)

pub goes : (os : List Opening) (i : Instruction) (code : List Instruction) → Completes os (i ∷ code) → Onward (opened os i) code × TurnsWell os i
goes os i code h = goes_by os i code h.inner h.tail h.nested h.is h.then

-- no instruction at all closes nothing
pub not_empty : (os : List Opening) → ¬ Completes os []
not_empty os h = by os h.inner h.tail h.nested h.is h.then
  where
    no_tail : (os : List Opening) → ¬ Tail os []
    no_tail [] t = cc
    no_tail (straight ∷ os) t = let e = t.is in cc
    no_tail (first_arm ∷ os) (inl t) = let e = t.is in cc
    no_tail (first_arm ∷ os) (inr t) = let e = t.is in cc

    by : (os : List Opening) (inner tail : List Instruction) → Nested inner → [] ≡ inner ++ tail → Tail os tail → ⊥
    by os [] tail n e t = no_tail os (subst (Tail os) (sym e) t)
    by os (i ∷ inner) tail n e t = cc

-- an expression closes itself
pub expression_completes : (code : List Instruction) → IsExpression code → Completes [] code
expression_completes code h = record { inner = h.0; tail = end_mark ∷ []; is = h.1; nested = h.2; then = refl }

pub completes_expression : (code : List Instruction) → Completes [] code → IsExpression code
completes_expression code h = (h.inner, h.is ∙ ap (λ (l : List Instruction). h.inner ++ l) h.then, h.nested)
