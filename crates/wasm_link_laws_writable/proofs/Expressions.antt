-- Moved code of an expression is one, and its instructions have opcodes.
use Rattle.std.proofs.Common.{◌≡◌, ℕ, zero, suc, Bool, true, false, List, [], ◌∷◌, ◌++◌, length, map, refl, sym, ap, ◌∙◌, subst, append_assoc}
use Rattle.std.specs.Prelude.{nat_lt, if◌then◌else◌, Option}
use Rattle.std.specs.List.{flat_map, AllByRecursion}
use Rattle.wasm_lang.specs.declared.types.ValType.{ValType}
use Rattle.wasm_lang.specs.Instructions.{Plain, Instruction, unreachable, block, loop, if_block, else_mark, end_mark, br, br_if, br_table, return, call, call_indirect, plain, global_get, global_set, is_simple, Nested, empty, simple, in_block, in_loop, in_if, in_arms, IsExpression}
use Rattle.wasm_lang.specs.Opcodes.{form_at, form_of}
use Rattle.wasm_lang.specs.Shape.{HasOpcode}
use Rattle.wasm_link_lang.specs.Pairs.{Pair, Bases, addressed}
use Rattle.wasm_link_lang.specs.Reductions.{entries}
use Rattle.wasm_link_code.specs.Code.{by_entry, bounded, moved}

-- ---- a list of instructions, one after another

AllSimple : List Instruction → Type 0
AllSimple [] = Unit {0}
AllSimple (i ∷ is) = (is_simple i ≡ true) × AllSimple is

ahead : (xs ys : List Instruction) → AllSimple xs → Nested ys → Nested (xs ++ ys)
unfolding AllSimple
ahead [] ys s n = n
ahead (x ∷ xs) ys s n = simple s.0 (ahead xs ys s.1 n)

both : (f : Instruction → List Instruction) (xs ys : List Instruction) → flat_map f (xs ++ ys) ≡ flat_map f xs ++ flat_map f ys
both f [] ys = refl
both f (x ∷ xs) ys = ap (λ l. f x ++ l) (both f xs ys) ∙ sym (append_assoc (f x) (flat_map f xs) (flat_map f ys))

-- what opens or closes a block stays, and what doesn't becomes such
record Keeps (f : Instruction → List Instruction) : Type 0 where
  blocks : (r : Option ValType) → f (block r) ≡ block r ∷ []
  loops : (r : Option ValType) → f (loop r) ≡ loop r ∷ []
  ifs : (r : Option ValType) → f (if_block r) ≡ if_block r ∷ []
  elses : f else_mark ≡ else_mark ∷ []
  ends : f end_mark ≡ end_mark ∷ []
  others : (i : Instruction) → is_simple i ≡ true → AllSimple (f i)

module _ (f : Instruction → List Instruction) (k : Keeps f) where
  closed : (body rest : List Instruction) → flat_map f (body ++ end_mark ∷ rest) ≡ flat_map f body ++ end_mark ∷ flat_map f rest
  closed body rest = both f body (end_mark ∷ rest) ∙ ap (λ l. flat_map f body ++ (l ++ flat_map f rest)) k.ends

  nested : {code : List Instruction} → Nested code → Nested (flat_map f code)
  nested empty = empty
  nested (simple {i = i} {rest = rest} s n) = ahead (f i) (flat_map f rest) (k.others i s) (nested n)
  nested (in_block {r = r} {body = body} {rest = rest} b n) =
      subst Nested (sym (ap (λ l. l ++ flat_map f (body ++ end_mark ∷ rest)) (k.blocks r) ∙ ap (λ l. block r ∷ l) (closed body rest))) (in_block (nested b) (nested n))
  nested (in_loop {r = r} {body = body} {rest = rest} b n) =
      subst Nested (sym (ap (λ l. l ++ flat_map f (body ++ end_mark ∷ rest)) (k.loops r) ∙ ap (λ l. loop r ∷ l) (closed body rest))) (in_loop (nested b) (nested n))
  nested (in_if {r = r} {body = body} {rest = rest} b n) =
      subst Nested (sym (ap (λ l. l ++ flat_map f (body ++ end_mark ∷ rest)) (k.ifs r) ∙ ap (λ l. if_block r ∷ l) (closed body rest))) (in_if (nested b) (nested n))
  nested (in_arms {r = r} {first = first} {second = second} {rest = rest} a b n) =
      subst Nested
      (sym (ap (λ l. l ++ flat_map f (first ++ else_mark ∷ (second ++ end_mark ∷ rest))) (k.ifs r)
      ∙ ap (λ l. if_block r ∷ l) (both f first (else_mark ∷ (second ++ end_mark ∷ rest)) ∙ ap (λ l. flat_map f first ++ (l ++ flat_map f (second ++ end_mark ∷ rest))) k.elses ∙ ap (λ l. flat_map f first ++ else_mark ∷ l) (closed second rest))))
      (in_arms (nested a) (nested b) (nested n))

  expression : (code : List Instruction) → IsExpression code → IsExpression (flat_map f code)
  expression code e = (flat_map f e.0, ap (flat_map f) e.1 ∙ closed e.0 [], nested e.2)

-- ---- moved code keeps them

by_entry_simple : (other k base n t : ℕ) → AllSimple (by_entry other k base n t)
unfolding AllSimple
by_entry_simple zero k base n t = (refl, tt)
by_entry_simple (suc other) k zero n t = (refl, (refl, (refl, (refl, (refl, (refl, (refl, tt)))))))
by_entry_simple (suc other) k (suc base) n t = (refl, (refl, (refl, (refl, (refl, (refl, (refl, (refl, (refl, tt)))))))))

indirect_simple : (w : Pair) (k t : ℕ) → AllSimple (moved w k (call_indirect t))
indirect_simple w k t = by (nat_lt t (length w.first.types))
  where
    by : (b : Bool) → AllSimple (if b then by_entry (entries w.second) k 0 (entries w.first) t else by_entry (entries w.first) k (entries w.first) (entries w.second) t)
    by true = by_entry_simple (entries w.second) k 0 (entries w.first) t
    by false = by_entry_simple (entries w.first) k (entries w.first) (entries w.second) t

plain_simple : (w : Pair) (k : ℕ) (p : Plain) → AllSimple (moved w k (plain p))
unfolding AllSimple
plain_simple w k (global_get x) = (refl, tt)
plain_simple w k (global_set x) = (refl, tt)
plain_simple w k p = (refl, tt)

moved_simple : (w : Pair) (k : ℕ) (i : Instruction) → is_simple i ≡ true → AllSimple (moved w k i)
unfolding AllSimple
moved_simple w k (call f) e = (refl, tt)
moved_simple w k (call_indirect t) e = indirect_simple w k t
moved_simple w k (plain p) e = plain_simple w k p
moved_simple w k i e = (e, tt)

pub moved_expression : (w : Pair) (k : ℕ) (code : List Instruction) → IsExpression code → IsExpression (flat_map (moved w k) code)
moved_expression w k = expression (moved w k) (record { blocks = λ r. refl; loops = λ r. refl; ifs = λ r. refl; elses = refl; ends = refl; others = moved_simple w k })

-- ---- opcodes

by_entry_opcodes : (other k base n t : ℕ) → AllByRecursion HasOpcode (by_entry other k base n t)
unfolding form_at
by_entry_opcodes zero k base n t = ((0x11, refl), tt)
by_entry_opcodes (suc other) k zero n t = ((0x22, refl), ((0x41, refl), ((0x20, refl), ((0x41, refl), ((0x49, refl), ((0x1b, refl), ((0x11, refl), tt)))))))
by_entry_opcodes (suc other) k (suc base) n t =
    ((0x22, refl), ((0x41, refl), ((0x6a, refl), ((0x41, refl), ((0x20, refl), ((0x41, refl), ((0x49, refl), ((0x1b, refl), ((0x11, refl), tt)))))))))

indirect_opcodes : (w : Pair) (k t : ℕ) → AllByRecursion HasOpcode (moved w k (call_indirect t))
indirect_opcodes w k t = by (nat_lt t (length w.first.types))
  where
    by : (b : Bool) → AllByRecursion HasOpcode (if b then by_entry (entries w.second) k 0 (entries w.first) t else by_entry (entries w.first) k (entries w.first) (entries w.second) t)
    by true = by_entry_opcodes (entries w.second) k 0 (entries w.first) t
    by false = by_entry_opcodes (entries w.first) k (entries w.first) (entries w.second) t

plain_opcodes : (w : Pair) (k : ℕ) (p : Plain) → HasOpcode (plain p) → AllByRecursion HasOpcode (moved w k (plain p))
unfolding form_at
plain_opcodes w k (global_get x) h = ((0x23, refl), tt)
plain_opcodes w k (global_set x) h = ((0x24, refl), tt)
plain_opcodes w k p h = (h, tt)

one_opcodes : (w : Pair) (k : ℕ) (i : Instruction) → HasOpcode i → AllByRecursion HasOpcode (moved w k i)
unfolding form_at
one_opcodes w k (call f) h = ((0x10, refl), tt)
one_opcodes w k (call_indirect t) h = indirect_opcodes w k t
one_opcodes w k (plain p) h = plain_opcodes w k p h
one_opcodes w k i h = (h, tt)

joined : (xs ys : List Instruction) → AllByRecursion HasOpcode xs → AllByRecursion HasOpcode ys → AllByRecursion HasOpcode (xs ++ ys)
joined [] ys a b = b
joined (x ∷ xs) ys a b = (a.0, joined xs ys a.1 b)

pub moved_opcodes : (w : Pair) (k : ℕ) (code : List Instruction) → AllByRecursion HasOpcode code → AllByRecursion HasOpcode (flat_map (moved w k) code)
moved_opcodes w k [] h = tt
moved_opcodes w k (i ∷ is) h = joined (moved w k i) (flat_map (moved w k) is) (one_opcodes w k i h.0) (moved_opcodes w k is h.1)

-- ---- code with addresses

addressed_simple : (b : Bases) (i : Instruction) → is_simple i ≡ true → is_simple (addressed b i) ≡ true
addressed_simple b (call f) e = refl
addressed_simple b (call_indirect t) e = refl
addressed_simple b (plain (global_get x)) e = refl
addressed_simple b (plain (global_set x)) e = refl
addressed_simple b (plain p) e = refl
addressed_simple b i e = e

pub addressed_expression : (w : Pair) (b : Bases) (k : ℕ) (code : List Instruction) → IsExpression code → IsExpression (flat_map (λ i. moved w k (addressed b i)) code)
addressed_expression w b k =
    expression (λ i. moved w k (addressed b i))
    (record { blocks = λ r. refl; loops = λ r. refl; ifs = λ r. refl; elses = refl; ends = refl; others = λ i e. moved_simple w k (addressed b i) (addressed_simple b i e) })

addressed_opcode : (b : Bases) (i : Instruction) → HasOpcode i → HasOpcode (addressed b i)
addressed_opcode b (call f) h = h
addressed_opcode b (call_indirect t) h = h
addressed_opcode b (plain (global_get x)) h = h
addressed_opcode b (plain (global_set x)) h = h
addressed_opcode b (plain p) h = h
addressed_opcode b i h = h

pub addressed_opcodes : (w : Pair) (b : Bases) (k : ℕ) (code : List Instruction) → AllByRecursion HasOpcode code → AllByRecursion HasOpcode (flat_map (λ i. moved w k (addressed b i)) code)
addressed_opcodes w b k [] h = tt
addressed_opcodes w b k (i ∷ is) h = joined (moved w k (addressed b i)) (flat_map (λ i. moved w k (addressed b i)) is) (one_opcodes w k (addressed b i) (addressed_opcode b i h.0)) (addressed_opcodes w b k is h.1)
