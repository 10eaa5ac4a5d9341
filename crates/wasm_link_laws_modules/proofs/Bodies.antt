-- Typed code stays typed when it is moved: contexts, instructions one by one, the guard of a call by an entry, and sequences.
use Rattle.std.proofs.Common.{◌≡◌, ◌⊎◌, inl, inr, ℕ, zero, suc, ◌+◌, Bool, true, false, List, [], ◌∷◌, ◌++◌, map, Option, Some, None, Result, Ok, Err, refl, sym, ap, ◌∙◌, subst}
use Rattle.std.specs.Prelude.{slice_get, reverse, ◌||◌}
use Rattle.std.specs.List.{flat_map}
use Rattle.std.proofs.lemmas.List.{append_assoc}
use Rattle.wasm_lang.specs.declared.types.ValType.{ValType}
use Rattle.wasm_lang.specs.declared.types.ValType.TheVariants.{I32}
use Rattle.wasm_lang.specs.declared.types.GlobalType.{GlobalType}
use Rattle.wasm_lang.specs.Instructions as code
use Rattle.wasm_lang.specs.Instructions.{Plain, Instruction, unreachable, block, loop, if_block, else_mark, end_mark, br, br_if, br_table, return, call, call_indirect, plain}
use Rattle.wasm_lang.specs.Modules.{FunctionType}
use Rattle.wasm_lang_valid.specs.declared.rule.Rule.{Rule}
use Rattle.wasm_lang_valid.specs.declared.rule.Rule.TheVariants.{NoType, NoFunction, NoTable, NoMemory, NoGlobal, NoLocal, NoLabel, LabelsDiffer}
use Rattle.wasm_lang_valid.specs.Typing.{Context, listed, result_of, inside, type_of, Shape, Fixed, Leaves, AnyOne, TwoAlike, Acts, fixed, two_alike, found, onward, unless, all_labels, alike, call_shape, plain_shape, shape, plain_late, late, Typed, typed_empty, typed_plain, typed_block, typed_loop, typed_arms, typed_if}
use Rattle.wasm_link_lang.specs.Pairs.{Pair, Bases, addressed}
use Rattle.wasm_link_lang.specs.Refusal.{is_indirect, has_indirect}
use Rattle.wasm_link_code.specs.Numbers.{number, global_number}
use Rattle.wasm_link_code.specs.Code.{bounded, by_entry, moved}

-- ---- results that are Ok

pub is_found : {A B : Type 0} → (r : Rule) (o : Option A) (f : A → B) (y : B) → found r o f ≡ Ok y → (x : A) × (o ≡ Some x) × (f x ≡ y)
is_found r None f y e = absurd (cc e)
is_found r (Some x) f y e = (x, refl, cc e)

pub finds : {A B : Type 0} → (r : Rule) (o : Option A) (f : A → B) (x : A) (y : B) → o ≡ Some x → f x ≡ y → found r o f ≡ Ok y
finds r o f x y e g = ap (λ o. found r o f) e ∙ ap Ok g

is_allowed : {A : Type 0} → (b : Bool) (r : Rule) (x y : A) → unless b r x ≡ Ok y → (b ≡ true) × (x ≡ y)
is_allowed true r x y e = (refl, cc e)
is_allowed false r x y e = absurd (cc e)

is_onward : {A B : Type 0} → (r : Result A Rule) (f : A → Result B Rule) (y : B) → onward r f ≡ Ok y → (x : A) × (r ≡ Ok x) × (f x ≡ Ok y)
is_onward (Ok x) f y e = (x, refl, e)
is_onward (Err r) f y e = absurd (cc e)

-- ---- contexts

-- What code refers to in a module's context is there in the linked module's, by its new number. The scratch local is k, and the other module has so
-- many entries.
pub record Carries (w : Pair) (b : Bases) (k other : ℕ) (c d : Context) : Type 0 where
  pub functions : (f : ℕ) (t : FunctionType) → type_of c f ≡ Some t → type_of d (number w (b.functions + f)) ≡ Some t
  pub globals : (x : ℕ) (g : GlobalType) → slice_get c.globals x ≡ Some g → slice_get d.globals (global_number w (b.globals + x)) ≡ Some g
  pub types : (n : ℕ) (t : FunctionType) → slice_get c.types n ≡ Some t → slice_get d.types (b.types + n) ≡ Some t
  pub entries : (n : ℕ) (t : FunctionType) → slice_get c.types n ≡ Some t → (base : ℕ) × (many : ℕ) × (moved w k (call_indirect (b.types + n)) ≡ by_entry other k base many (b.types + n))
  pub table : c.table ≡ true → d.table ≡ true
  pub memory : c.memory ≡ true → d.memory ≡ true
  pub locals : (x : ℕ) (t : ValType) → slice_get c.locals x ≡ Some t → slice_get d.locals x ≡ Some t
  pub labels : c.labels ≡ d.labels
  pub returns : c.returns ≡ d.returns

-- no guard is needed, or its local is there
abbrev pub HasScratch : (other k : ℕ) → Context → Type 0
HasScratch other k d = (other ≡ 0) ⊎ (slice_get d.locals k ≡ Some I32)

module _ (w : Pair) (b : Bases) (k other : ℕ) where
  carries_inside : (r : Option ValType) (c d : Context) → Carries w b k other c d → Carries w b k other (inside r c) (inside r d)
  carries_inside r c d it = record {
    functions = it.functions;
    globals = it.globals;
    types = it.types;
    entries = it.entries;
    table = it.table;
    memory = it.memory;
    locals = it.locals;
    labels = ap (λ ls. r ∷ ls) it.labels;
    returns = it.returns;
  }

  -- ---- one instruction

  -- it becomes one of the same shape
  pub record Becomes (i : Instruction) (d : Context) (s : Shape) : Type 0 where
    pub one : Instruction
    pub is_one : moved w k (addressed b i) ≡ one ∷ []
    pub shaped : shape d one ≡ Ok s
    pub kept : late d one ≡ Ok tt

  module _ (c d : Context) (it : Carries w b k other c d) where
    same_memory : {A : Type 0} → (x y : A) → unless c.memory NoMemory x ≡ Ok y → unless d.memory NoMemory x ≡ Ok y
    same_memory x y e = let is = is_allowed c.memory NoMemory x y e in ap (λ m. unless m NoMemory x) (it.memory is.0) ∙ ap Ok is.1

    same_local : (x : ℕ) (f : ValType → Shape) (s : Shape) → found NoLocal (slice_get c.locals x) f ≡ Ok s → found NoLocal (slice_get d.locals x) f ≡ Ok s
    same_local x f s e = let is = is_found NoLocal (slice_get c.locals x) f s e in finds NoLocal (slice_get d.locals x) f is.0 s (it.locals x is.0 is.1) is.2

    same_global : (x : ℕ) (f : GlobalType → Shape) (s : Shape) → found NoGlobal (slice_get c.globals x) f ≡ Ok s → found NoGlobal (slice_get d.globals (global_number w (b.globals + x))) f ≡ Ok s
    same_global x f s e =
        let is = is_found NoGlobal (slice_get c.globals x) f s e in finds NoGlobal (slice_get d.globals (global_number w (b.globals + x))) f is.0 s (it.globals x is.0 is.1) is.2

    settable : (x : ℕ) (f : GlobalType → Shape) (s : Shape) → found NoGlobal (slice_get c.globals x) f ≡ Ok s → late c (plain (code.global_set x)) ≡ Ok tt
        → late d (plain (code.global_set (global_number w (b.globals + x)))) ≡ Ok tt
    settable x f s e l =
        let is = is_found NoGlobal (slice_get c.globals x) f s e in
        let same : slice_get d.globals (global_number w (b.globals + x)) ≡ slice_get c.globals x = it.globals x is.0 is.1 ∙ sym is.1 in
        rw same l

    plain_becomes : (p : Plain) (s : Shape) → plain_shape c p ≡ Ok s → plain_late c p ≡ Ok tt → Becomes (plain p) d s
    plain_becomes (code.local_get x) s e l = record { one = plain (code.local_get x); is_one = refl; shaped = same_local x (λ t. Fixed [] (t ∷ [])) s e; kept = refl }
    plain_becomes (code.local_set x) s e l = record { one = plain (code.local_set x); is_one = refl; shaped = same_local x (λ t. Fixed (t ∷ []) []) s e; kept = refl }
    plain_becomes (code.local_tee x) s e l = record { one = plain (code.local_tee x); is_one = refl; shaped = same_local x (λ t. Fixed (t ∷ []) (t ∷ [])) s e; kept = refl }
    plain_becomes (code.global_get x) s e l =
        record { one = plain (code.global_get (global_number w (b.globals + x))); is_one = refl; shaped = same_global x (λ g. Fixed [] (g.kind ∷ [])) s e; kept = refl }
    plain_becomes (code.global_set x) s e l = record {
      one = plain (code.global_set (global_number w (b.globals + x)));
      is_one = refl;
      shaped = same_global x (λ g. Fixed (g.kind ∷ []) []) s e;
      kept = settable x (λ g. Fixed (g.kind ∷ []) []) s e l;
    }
    plain_becomes (code.load op align offset) s e l = record { one = plain (code.load op align offset); is_one = refl; shaped = same_memory _ s e; kept = l }
    plain_becomes (code.store op align offset) s e l = record { one = plain (code.store op align offset); is_one = refl; shaped = same_memory _ s e; kept = l }
    plain_becomes code.memory_size s e l = record { one = plain code.memory_size; is_one = refl; shaped = same_memory _ s e; kept = refl }
    plain_becomes code.memory_copy s e l = record { one = plain code.memory_copy; is_one = refl; shaped = same_memory _ s e; kept = refl }
    plain_becomes code.memory_fill s e l = record { one = plain code.memory_fill; is_one = refl; shaped = same_memory _ s e; kept = refl }
    plain_becomes p s e l = record { one = plain p; is_one = refl; shaped = e; kept = refl }

    becomes : (i : Instruction) (s : Shape) → is_indirect i ≡ false → shape c i ≡ Ok s → late c i ≡ Ok tt → Becomes i d s
    becomes unreachable s n e l = record { one = unreachable; is_one = refl; shaped = e; kept = refl }
    becomes (br x) s n e l = record { one = br x; is_one = refl; shaped = ap (λ ls. found NoLabel (slice_get ls x) (λ label. Leaves (listed label))) (sym it.labels) ∙ e; kept = refl }
    becomes (br_if x) s n e l =
        record { one = br_if x; is_one = refl; shaped = ap (λ ls. found NoLabel (slice_get ls x) (λ label. Fixed (I32 ∷ listed label) (listed label))) (sym it.labels) ∙ e; kept = refl }
    becomes (br_table ls x) s n e l = record {
      one = br_table ls x;
      is_one = refl;
      shaped = ap (λ labels. onward (all_labels labels ls) (λ _. found NoLabel (slice_get labels x) (λ label. Leaves (I32 ∷ listed label)))) (sym it.labels) ∙ e;
      kept = ap (λ labels. unless (alike labels ls x) LabelsDiffer tt) (sym it.labels) ∙ l;
    }
    becomes return s n e l = record { one = return; is_one = refl; shaped = ap (λ r. Ok (Leaves (listed r))) (sym it.returns) ∙ e; kept = refl }
    becomes (call f) s n e l =
        let is = is_found NoFunction (type_of c f) (call_shape []) s e in
        record {
          one = call (number w (b.functions + f));
          is_one = refl;
          shaped = finds NoFunction (type_of d (number w (b.functions + f))) (call_shape []) is.0 s (it.functions f is.0 is.1) is.2;
          kept = refl;
        }
    becomes (call_indirect t) s n e l = absurd (cc n)
    becomes (plain p) s n e l = plain_becomes p s e l
    becomes (block r) s n e l = absurd (cc e)
    becomes (loop r) s n e l = absurd (cc e)
    becomes (if_block r) s n e l = absurd (cc e)
    becomes else_mark s n e l = absurd (cc e)
    becomes end_mark s n e l = absurd (cc e)

    -- ---- a call by an entry

    by_local : slice_get d.locals k ≡ Some I32 → (f : ValType → Shape) → found NoLocal (slice_get d.locals k) f ≡ Ok (f I32)
    by_local e f = finds NoLocal (slice_get d.locals k) f I32 (f I32) e refl

    bounded_typed : (n : ℕ) (below rest' : List ValType) (rest : List Instruction) (after : List ValType) → slice_get d.locals k ≡ Some I32
        → Typed d rest (I32 ∷ below) after → Typed d (bounded k n rest) (I32 ∷ below) after
    bounded_typed n below rest' rest after e further =
        typed_plain (I32 ∷ below) refl fixed refl
        (typed_plain (I32 ∷ I32 ∷ below) (by_local e (λ t. Fixed [] (t ∷ []))) fixed refl
        (typed_plain (I32 ∷ I32 ∷ I32 ∷ below) refl fixed refl
        (typed_plain (I32 ∷ I32 ∷ below) refl fixed refl
        (typed_plain below refl two_alike refl further))))

    entry_typed : (base n t : ℕ) (below : List ValType) (rest : List Instruction) (after : List ValType) (o : ℕ) → other ≡ o → HasScratch o k d
        → Typed d (call_indirect t ∷ rest) (I32 ∷ below) after → Typed d (by_entry o k base n t ++ rest) (I32 ∷ below) after
    entry_typed base n t below rest after zero e h further = further
    entry_typed base n t below rest after (suc o) e (inl none) further = absurd (cc none)
    entry_typed zero n t below rest after (suc o) e (inr scratch) further =
        typed_plain below (by_local scratch (λ t. Fixed (t ∷ []) (t ∷ []))) fixed refl (bounded_typed n below [] (call_indirect t ∷ rest) after scratch further)
    entry_typed (suc base) n t below rest after (suc o) e (inr scratch) further =
        typed_plain below (by_local scratch (λ t. Fixed (t ∷ []) (t ∷ []))) fixed refl
        (typed_plain (I32 ∷ below) refl fixed refl
        (typed_plain below refl fixed refl
        (bounded_typed n below [] (call_indirect t ∷ rest) after scratch further)))

  -- ---- sequences

  abbrev pub moved_all : List Instruction → List Instruction
  moved_all is = flat_map (moved w k) (map (addressed b) is)

  pub moved_joins : (is js : List Instruction) → moved_all (is ++ js) ≡ moved_all is ++ moved_all js
  moved_joins [] js = refl
  moved_joins (i ∷ is) js = ap (λ rest. moved w k (addressed b i) ++ rest) (moved_joins is js) ∙ sym (append_assoc (moved w k (addressed b i)) (moved_all is) (moved_all js))

  or_first : (x y : Bool) → x ≡ true → (x || y) ≡ true
  or_first true y e = refl
  or_first false y e = absurd (cc e)

  or_second : (x y : Bool) → y ≡ true → (x || y) ≡ true
  or_second true y e = refl
  or_second false y e = e

  pub in_first : (is js : List Instruction) → has_indirect is ≡ true → has_indirect (is ++ js) ≡ true
  in_first [] js e = absurd (cc e)
  in_first (i ∷ is) js e = by (is_indirect i) e (in_first is js)
    where
      by : (x : Bool) → (x || has_indirect is) ≡ true → (has_indirect is ≡ true → has_indirect (is ++ js) ≡ true) → (x || has_indirect (is ++ js)) ≡ true
      by true e further = refl
      by false e further = further e

  in_second : (is js : List Instruction) → has_indirect js ≡ true → has_indirect (is ++ js) ≡ true
  in_second [] js e = e
  in_second (i ∷ is) js e = or_second (is_indirect i) (has_indirect (is ++ js)) (in_second is js e)

  -- where there is a call by an entry, its guard has a local
  abbrev pub Guarded : List Instruction → Context → Type 0
  Guarded is d = has_indirect is ≡ true → HasScratch other k d

  abbrev pub Moves : Context → List Instruction → List ValType → List ValType → Type 0
  Moves c is before after = (d : Context) → Carries w b k other c d → Guarded is d → Typed d (moved_all is) before after

  acts_fixed : (s : Shape) (takes gives ts gs : List ValType) → Acts s takes gives → Fixed ts gs ≡ s → (ts ≡ takes) × (gs ≡ gives)
  acts_fixed (Fixed xs ys) takes gives ts gs fixed e = (cc e, cc e)
  acts_fixed (Leaves xs) takes gives ts gs a e = absurd (cc e)
  acts_fixed AnyOne takes gives ts gs a e = absurd (cc e)
  acts_fixed TwoAlike takes gives ts gs a e = absurd (cc e)

  indirect_moves : (c : Context) (rest : List Instruction) (s : Shape) (takes gives after : List ValType) (t : ℕ) (below : List ValType)
      → shape c (call_indirect t) ≡ Ok s → Acts s takes gives → Moves c rest (gives ++ below) after → Moves c (call_indirect t ∷ rest) (takes ++ below) after
  indirect_moves c rest s takes gives after t below is acts further d it g =
      let o = is_onward (found NoType (slice_get c.types t) (call_shape (I32 ∷ []))) (unless c.table NoTable) s is in
      let f = is_found NoType (slice_get c.types t) (call_shape (I32 ∷ [])) o.0 o.1 in
      let u = is_allowed c.table NoTable o.0 s o.2 in
      let form : call_shape (I32 ∷ []) f.0 ≡ s = f.2 ∙ u.1 in
      let lists = acts_fixed s takes gives (I32 ∷ reverse f.0.params) (listed (result_of f.0)) acts form in
      let entry = it.entries t f.0 f.1 in
      let shaped : shape d (call_indirect (b.types + t)) ≡ Ok s =
      ap (λ r. onward r (unless d.table NoTable)) (finds NoType (slice_get d.types (b.types + t)) (call_shape (I32 ∷ [])) f.0 o.0 (it.types t f.0 f.1) f.2)
      ∙ ap (λ m. unless m NoTable o.0) (it.table u.0) ∙ ap Ok u.1 in
      let this : Typed d (call_indirect (b.types + t) ∷ moved_all rest) (takes ++ below) after =
      typed_plain below shaped acts refl (further d it (λ h. g refl)) in
      subst (λ ts. Typed d (moved_all (call_indirect t ∷ rest)) (ts ++ below) after) lists.0
      (subst (λ code. Typed d (code ++ moved_all rest) (I32 ∷ (reverse f.0.params ++ below)) after) (sym entry.2)
      (entry_typed c d it entry.0 entry.1 (b.types + t) (reverse f.0.params ++ below) (moved_all rest) after other refl (g refl)
      (subst (λ ts. Typed d (call_indirect (b.types + t) ∷ moved_all rest) (ts ++ below) after) (sym lists.0) this)))

  simple_moves : (c : Context) (i : Instruction) (rest : List Instruction) (s : Shape) (takes gives after : List ValType) (below : List ValType)
      → is_indirect i ≡ false → shape c i ≡ Ok s → Acts s takes gives → late c i ≡ Ok tt → Moves c rest (gives ++ below) after → Moves c (i ∷ rest) (takes ++ below) after
  simple_moves c i rest s takes gives after below not_indirect is acts last further d it g =
      let one = becomes c d it i s not_indirect is last in
      subst (λ code. Typed d (code ++ moved_all rest) (takes ++ below) after) (sym one.is_one)
      (typed_plain below one.shaped acts one.kept (further d it (λ h. g (or_second (is_indirect i) (has_indirect rest) h))))

  plain_moves : (c : Context) (i : Instruction) (rest : List Instruction) (s : Shape) (takes gives after : List ValType) (below : List ValType)
      → shape c i ≡ Ok s → Acts s takes gives → late c i ≡ Ok tt → Moves c rest (gives ++ below) after → Moves c (i ∷ rest) (takes ++ below) after
  plain_moves c (call_indirect t) rest s takes gives after below is acts last further = indirect_moves c rest s takes gives after t below is acts further
  plain_moves c i rest s takes gives after below is acts last further = simple_moves c i rest s takes gives after below refl is acts last further

  -- what stands inside a block, and what stands after it
  inside_guard : (i : Instruction) (body more : List Instruction) (d : Context) → Guarded (i ∷ (body ++ more)) d → Guarded body d
  inside_guard i body more d g h = g (or_second (is_indirect i) (has_indirect (body ++ more)) (in_first body more h))

  after_guard : (i j : Instruction) (body more : List Instruction) (d : Context) → Guarded (i ∷ (body ++ j ∷ more)) d → Guarded more d
  after_guard i j body more d g h =
      g (or_second (is_indirect i) (has_indirect (body ++ j ∷ more)) (in_second body (j ∷ more) (or_second (is_indirect j) (has_indirect more) h)))

  block_moves : (c : Context) (r : Option ValType) (body rest : List Instruction) (below after : List ValType)
      → Moves (inside r c) body [] (listed r) → Moves c rest (listed r ++ below) after → Moves c (block r ∷ (body ++ end_mark ∷ rest)) below after
  block_moves c r body rest below after first further d it g =
      subst (λ code. Typed d (block r ∷ code) below after) (sym (moved_joins body (end_mark ∷ rest)))
      (typed_block (first (inside r d) (carries_inside r c d it) (inside_guard (block r) body (end_mark ∷ rest) d g)) (further d it (after_guard (block r) end_mark body rest d g)))

  loop_moves : (c : Context) (r : Option ValType) (body rest : List Instruction) (below after : List ValType)
      → Moves (inside None c) body [] (listed r) → Moves c rest (listed r ++ below) after → Moves c (loop r ∷ (body ++ end_mark ∷ rest)) below after
  loop_moves c r body rest below after first further d it g =
      subst (λ code. Typed d (loop r ∷ code) below after) (sym (moved_joins body (end_mark ∷ rest)))
      (typed_loop (first (inside None d) (carries_inside None c d it) (inside_guard (loop r) body (end_mark ∷ rest) d g)) (further d it (after_guard (loop r) end_mark body rest d g)))

  if_moves : (c : Context) (body rest : List Instruction) (below after : List ValType)
      → Moves (inside None c) body [] [] → Moves c rest below after → Moves c (if_block None ∷ (body ++ end_mark ∷ rest)) (I32 ∷ below) after
  if_moves c body rest below after first further d it g =
      subst (λ code. Typed d (if_block None ∷ code) (I32 ∷ below) after) (sym (moved_joins body (end_mark ∷ rest)))
      (typed_if (first (inside None d) (carries_inside None c d it) (inside_guard (if_block None) body (end_mark ∷ rest) d g)) (further d it (after_guard (if_block None) end_mark body rest d g)))

  arms_move : (c : Context) (r : Option ValType) (first second rest : List Instruction) (below after : List ValType)
      → Moves (inside r c) first [] (listed r) → Moves (inside r c) second [] (listed r) → Moves c rest (listed r ++ below) after
      → Moves c (if_block r ∷ (first ++ else_mark ∷ (second ++ end_mark ∷ rest))) (I32 ∷ below) after
  arms_move c r first second rest below after one two further d it g =
      let later : Guarded (second ++ end_mark ∷ rest) d = after_guard (if_block r) else_mark first (second ++ end_mark ∷ rest) d g in
      let same : moved_all (first ++ else_mark ∷ (second ++ end_mark ∷ rest)) ≡ moved_all first ++ else_mark ∷ (moved_all second ++ end_mark ∷ moved_all rest) =
      moved_joins first (else_mark ∷ (second ++ end_mark ∷ rest)) ∙ ap (λ code. moved_all first ++ else_mark ∷ code) (moved_joins second (end_mark ∷ rest)) in
      subst (λ code. Typed d (if_block r ∷ code) (I32 ∷ below) after) (sym same)
      (typed_arms (one (inside r d) (carries_inside r c d it) (inside_guard (if_block r) first (else_mark ∷ (second ++ end_mark ∷ rest)) d g))
      (two (inside r d) (carries_inside r c d it) (λ h. later (in_first second (end_mark ∷ rest) h)))
      (further d it (λ h. later (in_second second (end_mark ∷ rest) h))))

  pub typed_moves : {c : Context} {is : List Instruction} {before after : List ValType} → Typed c is before after → Moves c is before after
  typed_moves typed_empty = λ d it g. typed_empty
  typed_moves (typed_plain {c = c} {i = i} {rest = rest} {s = s} {takes = takes} {gives = gives} {after = after} below is acts last more) =
      plain_moves c i rest s takes gives after below is acts last (typed_moves more)
  typed_moves (typed_block {c = c} {r = r} {body = body} {rest = rest} {below = below} {after = after} first more) =
      block_moves c r body rest below after (typed_moves first) (typed_moves more)
  typed_moves (typed_loop {c = c} {r = r} {body = body} {rest = rest} {below = below} {after = after} first more) =
      loop_moves c r body rest below after (typed_moves first) (typed_moves more)
  typed_moves (typed_arms {c = c} {r = r} {first = first} {second = second} {rest = rest} {below = below} {after = after} one two more) =
      arms_move c r first second rest below after (typed_moves one) (typed_moves two) (typed_moves more)
  typed_moves (typed_if {c = c} {body = body} {rest = rest} {below = below} {after = after} first more) =
      if_moves c body rest below after (typed_moves first) (typed_moves more)
