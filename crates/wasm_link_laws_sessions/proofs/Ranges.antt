-- The numbers in the code of the functions that a pair calls are in range, and a guard has room: of the modules' typing, and of the linked module's.
use Rattle.std.proofs.Common.{◌≡◌, inl, inr, ℕ, zero, suc, ◌+◌, ◌≤◌, Bool, true, false, List, [], ◌∷◌, ◌++◌, length, map, Option, Some, None, Ok, refl, sym, ap, ◌∙◌, subst, arith, length-append}
use Rattle.std.specs.Prelude.{slice_get, if◌then◌else◌, nat_lt, option_map}
use Rattle.std.proofs.lemmas.Option.{slice_get_within, slice_get-map}
use Rattle.wasm_lang.specs.declared.types.ValType.{ValType}
use Rattle.wasm_lang.specs.declared.types.GlobalType.{GlobalType}
use Rattle.wasm_lang.specs.declared.types.ImportKind.{ImportKind}
use Rattle.wasm_lang.specs.declared.types.ImportKind.TheVariants as imports
use Rattle.wasm_lang.specs.Instructions as flat
use Rattle.wasm_lang.specs.Instructions.{Instruction, Plain, local_get, local_set, local_tee, global_get, global_set}
use Rattle.wasm_lang.specs.Modules.{FunctionType, FunctionBody, Imported, WasmModule}
use Rattle.wasm_lang_valid.specs.declared.rule.Rule.TheVariants.{NoFunction, NoGlobal, NoLocal}
use Rattle.wasm_lang_valid.specs.Typing.{Context, Shape, Fixed, found, type_of, call_shape, shape, listed, inside, Typed, typed_empty, typed_plain, typed_block, typed_loop, typed_arms, typed_if, IsValid}
use Rattle.wasm_lang_valid.specs.ModuleRules.{global_types}
use Rattle.wasm_lang_valid.specs.Validity.{own_type, body_context}
use Rattle.wasm_lang_exec.specs.Code.{unreachable, block, loop, if_block, br, br_if, br_table, return, call, call_indirect, plain, Trees, ε, ◌▹◌, ◌⊕◌, Open, a_block, a_loop, an_if, an_else, one, nest, tree_of}
use Rattle.wasm_lang_exec.specs.Reductions as alone
use Rattle.wasm_lang_exec.specs.Reductions.{Callee, an_import, a_function, if_function, imported_callee, imported_callees, own_callee, own_callees, callees, callee_at}
use Rattle.session_lang.specs.Names.{import_name}
use Rattle.wasm_link_laws_sessions.specs.Each.{EachIn}
use Rattle.wasm_laws_sound.specs.Trees.{IsTyped}
use Rattle.wasm_laws_sound.specs.Laws.{IsWhole}
use Rattle.wasm_laws_sound.specs.Configurations.{within}
use Rattle.wasm_laws_sound.proofs.Functions.{functions_are_typed}
use Rattle.wasm_link_lang.specs.Pairs.{Pair, Bases, past_first, addressed, at_addresses, all_callees, callee_of, called, end_of}
use Rattle.wasm_link_lang.specs.Reductions.{entries}
use Rattle.wasm_link_code.specs.Numbers.{number}
use Rattle.wasm_link_code.specs.Linked.{linked}
use Rattle.wasm_link_code.specs.Trees.{entry_tree, moved_tree}
use Rattle.wasm_link_laws_modules.specs.Callees.{IsMoved}
use Rattle.wasm_link_laws_modules.specs.Laws.{IsLinkable}
use Rattle.wasm_link_laws_modules.proofs.Places.{Splits, splits}
use Rattle.wasm_link_laws_modules.proofs.Types.{is_mapped, typed_first, typed_second}
use Rattle.wasm_link_laws_modules.proofs.Bodies.{is_found}
use Rattle.wasm_link_laws_modules.proofs.Contexts.{context_type, own_is}
use Rattle.wasm_link_laws_modules.proofs.Facts.{bodies_kept}
use Rattle.wasm_link_laws_modules.proofs.Law.{whole, numbers_are_callees}
use Rattle.wasm_link_laws_sessions.specs.Alike.{IsFunction, HasRoom, other_entries, PlainInRange, InRange, IsAlikeCallee}
use Rattle.wasm_link_laws_sessions.specs.Globals.{global_count}
use Rattle.wasm_link_laws_sessions.proofs.Configurations.{each_joins}

-- ---- from code as it is spelled

-- of each instruction
abbrev pub AllOf : (Instruction → Type 0) → List Instruction → Type 0
AllOf P [] = Unit {0}
AllOf P (i ∷ is) = P i × AllOf P is

module _ (P : Instruction → Type 0) where
  pub all_joins : (is js : List Instruction) → AllOf P is → AllOf P js → AllOf P (is ++ js)
  all_joins [] js p q = q
  all_joins (i ∷ is) js p q = (p.0, all_joins is js p.1 q)

  abbrev AllOpen : List Open → Type 0
  AllOpen [] = Unit {0}
  AllOpen (a_block before r ∷ os) = P (flat.block r) × EachIn P before × AllOpen os
  AllOpen (a_loop before r ∷ os) = P (flat.loop r) × EachIn P before × AllOpen os
  AllOpen (an_if before r ∷ os) = P (flat.if_block r) × EachIn P before × AllOpen os
  AllOpen (an_else before r first ∷ os) = P (flat.if_block r) × EachIn P before × EachIn P first × AllOpen os

  nest_each : (is : List Instruction) (inside : Trees) (around : List Open) (tree : Trees) → AllOf P is → EachIn P inside → AllOpen around → nest inside around is ≡ Some tree → EachIn P tree
  nest_each [] inside around tree h p q e = absurd (cc e)
  nest_each (flat.unreachable ∷ is) inside around tree h p q e = nest_each is (inside ⊕ one unreachable) around tree h.1 (each_joins P inside (one unreachable) p (h.0, tt)) q e
  nest_each (flat.block r ∷ is) inside around tree h p q e = nest_each is ε (a_block inside r ∷ around) tree h.1 tt (h.0, p, q) e
  nest_each (flat.loop r ∷ is) inside around tree h p q e = nest_each is ε (a_loop inside r ∷ around) tree h.1 tt (h.0, p, q) e
  nest_each (flat.if_block r ∷ is) inside around tree h p q e = nest_each is ε (an_if inside r ∷ around) tree h.1 tt (h.0, p, q) e
  nest_each (flat.else_mark ∷ is) inside [] tree h p q e = absurd (cc e)
  nest_each (flat.else_mark ∷ is) inside (a_block before r ∷ around) tree h p q e = absurd (cc e)
  nest_each (flat.else_mark ∷ is) inside (a_loop before r ∷ around) tree h p q e = absurd (cc e)
  nest_each (flat.else_mark ∷ is) inside (an_if before r ∷ around) tree h p q e = nest_each is ε (an_else before r inside ∷ around) tree h.1 tt (q.0, q.1, p, q.2) e
  nest_each (flat.else_mark ∷ is) inside (an_else before r first ∷ around) tree h p q e = absurd (cc e)
  nest_each (flat.end_mark ∷ []) inside [] tree h p q e = let same : inside ≡ tree = cc e in subst (EachIn P) same p
  nest_each (flat.end_mark ∷ i ∷ is) inside [] tree h p q e = absurd (cc e)
  nest_each (flat.end_mark ∷ is) inside (a_block before r ∷ around) tree h p q e =
      nest_each is (before ⊕ one (block r inside)) around tree h.1 (each_joins P before (one (block r inside)) q.1 (q.0, p, tt)) q.2 e
  nest_each (flat.end_mark ∷ is) inside (a_loop before r ∷ around) tree h p q e =
      nest_each is (before ⊕ one (loop r inside)) around tree h.1 (each_joins P before (one (loop r inside)) q.1 (q.0, p, tt)) q.2 e
  nest_each (flat.end_mark ∷ is) inside (an_if before r ∷ around) tree h p q e =
      nest_each is (before ⊕ one (if_block r inside ε)) around tree h.1 (each_joins P before (one (if_block r inside ε)) q.1 (q.0, p, tt, tt)) q.2 e
  nest_each (flat.end_mark ∷ is) inside (an_else before r first ∷ around) tree h p q e =
      nest_each is (before ⊕ one (if_block r first inside)) around tree h.1 (each_joins P before (one (if_block r first inside)) q.1 (q.0, q.2, p, tt)) q.3 e
  nest_each (flat.br l ∷ is) inside around tree h p q e = nest_each is (inside ⊕ one (br l)) around tree h.1 (each_joins P inside (one (br l)) p (h.0, tt)) q e
  nest_each (flat.br_if l ∷ is) inside around tree h p q e = nest_each is (inside ⊕ one (br_if l)) around tree h.1 (each_joins P inside (one (br_if l)) p (h.0, tt)) q e
  nest_each (flat.br_table ls d ∷ is) inside around tree h p q e =
      nest_each is (inside ⊕ one (br_table ls d)) around tree h.1 (each_joins P inside (one (br_table ls d)) p (h.0, tt)) q e
  nest_each (flat.return ∷ is) inside around tree h p q e = nest_each is (inside ⊕ one return) around tree h.1 (each_joins P inside (one return) p (h.0, tt)) q e
  nest_each (flat.call f ∷ is) inside around tree h p q e = nest_each is (inside ⊕ one (call f)) around tree h.1 (each_joins P inside (one (call f)) p (h.0, tt)) q e
  nest_each (flat.call_indirect t ∷ is) inside around tree h p q e =
      nest_each is (inside ⊕ one (call_indirect t)) around tree h.1 (each_joins P inside (one (call_indirect t)) p (h.0, tt)) q e
  nest_each (flat.plain x ∷ is) inside around tree h p q e = nest_each is (inside ⊕ one (plain x)) around tree h.1 (each_joins P inside (one (plain x)) p (h.0, tt)) q e

  pub tree_each : (code : List Instruction) (tree : Trees) → AllOf P code → tree_of code ≡ Some tree → EachIn P tree
  tree_each code tree h e = nest_each code ε [] tree h tt tt e

pub all_map : (P Q : Instruction → Type 0) (f : Instruction → Instruction) → ((i : Instruction) → P i → Q (f i)) → (is : List Instruction) → AllOf P is → AllOf Q (map f is)
all_map P Q f h [] p = tt
all_map P Q f h (i ∷ is) p = (h i p.0, all_map P Q f h is p.1)

-- ---- of each instruction of typed code, what its shape says in the context of the body, whatever labels are open

module _ (P : Instruction → Type 0) (base : Context) (shaped : (labels : List (Option ValType)) (i : Instruction) (s : Shape) → shape (record base { labels = labels }) i ≡ Ok s → P i)
    (ends : P flat.end_mark) (turns : P flat.else_mark) (blocks : (r : Option ValType) → P (flat.block r)) (loops : (r : Option ValType) → P (flat.loop r)) (ifs : (r : Option ValType) → P (flat.if_block r)) where
  all_typed : {c : Context} {is : List Instruction} {before after : List ValType} → Typed c is before after → (labels : List (Option ValType)) → c ≡ record base { labels = labels } → AllOf P is
  all_typed typed_empty labels e = tt
  all_typed (typed_plain {i = i} {s = s} below h acts late rest) labels e = (shaped labels i s (ap (λ c. shape c i) (sym e) ∙ h), all_typed rest labels e)
  all_typed (typed_block {r = r} {body = body} {rest = rest} t u) labels e =
      (blocks r, all_joins P body (flat.end_mark ∷ rest) (all_typed t (r ∷ labels) (ap (inside r) e)) (ends, all_typed u labels e))
  all_typed (typed_loop {r = r} {body = body} {rest = rest} t u) labels e =
      (loops r, all_joins P body (flat.end_mark ∷ rest) (all_typed t (None ∷ labels) (ap (inside None) e)) (ends, all_typed u labels e))
  all_typed (typed_arms {r = r} {first = first} {second = second} {rest = rest} t u v) labels e = (
    ifs r,
    all_joins P first (flat.else_mark ∷ (second ++ flat.end_mark ∷ rest)) (all_typed t (r ∷ labels) (ap (inside r) e))
        (turns, all_joins P second (flat.end_mark ∷ rest) (all_typed u (r ∷ labels) (ap (inside r) e)) (ends, all_typed v labels e)),
  )
  all_typed (typed_if {body = body} {rest = rest} t u) labels e =
      (ifs None, all_joins P body (flat.end_mark ∷ rest) (all_typed t (None ∷ labels) (ap (inside None) e)) (ends, all_typed u labels e))

  pub all_valid : (code : List Instruction) → IsValid base code → AllOf P code
  all_valid code valid = subst (AllOf P) (sym valid.1) (all_joins P valid.0 (flat.end_mark ∷ []) (all_typed valid.2 (base.returns ∷ []) refl) (ends, tt))

-- ---- rooms, of the linked module's typing

abbrev Roomy : Pair → ℕ → Instruction → Type 0
Roomy w room (flat.call_indirect t) = HasRoom (other_entries w t) room
Roomy w room i = Unit {0}

module _ (w : Pair) (k room : ℕ) where
  has_local : (c : Context) (form : Shape) → length c.locals ≡ k + room → found NoLocal (slice_get c.locals k) (λ t. Fixed (t ∷ []) (t ∷ [])) ≡ Ok form → 1 ≤ room
  has_local c form many e =
      let it = is_found NoLocal (slice_get c.locals k) (λ t. Fixed (t ∷ []) (t ∷ [])) form e in
      let there = slice_get_within c.locals k it.0 it.1 in omega (arith, there, many)

  rooms : (c : Context) → length c.locals ≡ k + room → (code : Trees) (before after : List ValType) → IsTyped c (moved_tree w k code) before after → EachIn (Roomy w room) code
  rooms c many ε before after h = tt
  rooms c many (block r body ▹ code) before after h = (tt, rooms (inside r c) many body [] (listed r) h.0, rooms c many code (listed r ++ before) after h.1)
  rooms c many (loop r body ▹ code) before after h = (tt, rooms (inside None c) many body [] (listed r) h.0, rooms c many code (listed r ++ before) after h.1)
  rooms c many (if_block r first second ▹ code) before after h =
      (tt, rooms (inside r c) many first [] (listed r) h.2, rooms (inside r c) many second [] (listed r) h.3, rooms c many code (listed r ++ h.0) after h.4)
  rooms c many (unreachable ▹ code) before after h = (tt, rooms c many code (h.gives ++ h.below) after h.goes_on)
  rooms c many (br l ▹ code) before after h = (tt, rooms c many code (h.gives ++ h.below) after h.goes_on)
  rooms c many (br_if l ▹ code) before after h = (tt, rooms c many code (h.gives ++ h.below) after h.goes_on)
  rooms c many (br_table ls d ▹ code) before after h = (tt, rooms c many code (h.gives ++ h.below) after h.goes_on)
  rooms c many (return ▹ code) before after h = (tt, rooms c many code (h.gives ++ h.below) after h.goes_on)
  rooms c many (call f ▹ code) before after h = (tt, rooms c many code (h.gives ++ h.below) after h.goes_on)
  rooms c many (plain p ▹ code) before after h = (tt, rooms c many code (h.gives ++ h.below) after h.goes_on)
  rooms c many (call_indirect t ▹ code) before after h = by (nat_lt t (length w.first.types)) h (λ ts us g. rooms c many code ts us g)
    where
      entry : (other base n : ℕ) → IsTyped c (entry_tree other k base n t (moved_tree w k code)) before after
          → ((ts us : List ValType) → IsTyped c (moved_tree w k code) ts us → EachIn (Roomy w room) code) → HasRoom other room × EachIn (Roomy w room) code
      entry zero base n h further = (tt, further (h.gives ++ h.below) after h.goes_on)
      entry (suc other) zero n h further =
          let it = h.goes_on.goes_on.goes_on.goes_on.goes_on.goes_on in (has_local c h.form many h.has_form, further (it.gives ++ it.below) after it.goes_on)
      entry (suc other) (suc base) n h further =
          let it = h.goes_on.goes_on.goes_on.goes_on.goes_on.goes_on.goes_on.goes_on in (has_local c h.form many h.has_form, further (it.gives ++ it.below) after it.goes_on)

      by : (b : Bool)
          → IsTyped c (if b then entry_tree (entries w.second) k 0 (entries w.first) t (moved_tree w k code) else entry_tree (entries w.first) k (entries w.first) (entries w.second) t (moved_tree w k code))
          before after
          → ((ts us : List ValType) → IsTyped c (moved_tree w k code) ts us → EachIn (Roomy w room) code)
          → HasRoom (if b then entries w.second else entries w.first) room × EachIn (Roomy w room) code
      by true h further = entry (entries w.second) 0 (entries w.first) h further
      by false h further = entry (entries w.first) (entries w.first) (entries w.second) h further

-- ---- what holds of each instruction for two reasons

module _ (P Q R : Instruction → Type 0) (both : (i : Instruction) → P i → Q i → R i) where
  each_both : (code : Trees) → EachIn P code → EachIn Q code → EachIn R code
  each_both ε p q = tt
  each_both (block r body ▹ code) p q = (both (flat.block r) p.0 q.0, each_both body p.1 q.1, each_both code p.2 q.2)
  each_both (loop r body ▹ code) p q = (both (flat.loop r) p.0 q.0, each_both body p.1 q.1, each_both code p.2 q.2)
  each_both (if_block r first second ▹ code) p q = (both (flat.if_block r) p.0 q.0, each_both first p.1 q.1, each_both second p.2 q.2, each_both code p.3 q.3)
  each_both (unreachable ▹ code) p q = (both flat.unreachable p.0 q.0, each_both code p.1 q.1)
  each_both (br l ▹ code) p q = (both (flat.br l) p.0 q.0, each_both code p.1 q.1)
  each_both (br_if l ▹ code) p q = (both (flat.br_if l) p.0 q.0, each_both code p.1 q.1)
  each_both (br_table ls d ▹ code) p q = (both (flat.br_table ls d) p.0 q.0, each_both code p.1 q.1)
  each_both (return ▹ code) p q = (both flat.return p.0 q.0, each_both code p.1 q.1)
  each_both (call f ▹ code) p q = (both (flat.call f) p.0 q.0, each_both code p.1 q.1)
  each_both (call_indirect t ▹ code) p q = (both (flat.call_indirect t) p.0 q.0, each_both code p.1 q.1)
  each_both (plain x ▹ code) p q = (both (flat.plain x) p.0 q.0, each_both code p.1 q.1)

-- ---- the own function that is called

record OwnCode (m : WasmModule) (t : FunctionType) (more : List ValType) (tree : Trees) : Type 0 where
  place : ℕ
  type : ℕ
  body : FunctionBody
  numbered : slice_get m.functions place ≡ Some type
  stands : slice_get m.bodies place ≡ Some body
  typed : slice_get m.types type ≡ Some t
  has_locals : body.locals ≡ more
  has_tree : tree_of body.code ≡ Some tree

module _ (m : WasmModule) (t : FunctionType) (more : List ValType) (tree : Trees) where
  abbrev it : Option Callee
  it = Some (a_function t more tree)

  no_import : (is : List Imported) (i : ℕ) → slice_get (imported_callees m is) i ≡ Some it → ⊥
  no_import [] i h = cc h
  no_import (x ∷ is) i h = by x.kind i h (λ i h. no_import is i h)
    where
      not_one : (name : List ℕ) (o : Option FunctionType) → Some (option_map (an_import name) o) ≡ Some it → ⊥
      not_one name None h = cc h
      not_one name (Some u) h = cc h

      by : (k : ImportKind) (i : ℕ) → slice_get (if_function k (λ t. imported_callee m x t ∷ imported_callees m is) (imported_callees m is)) i ≡ Some it
          → ((i : ℕ) → slice_get (imported_callees m is) i ≡ Some it → ⊥) → ⊥
      by (imports.Func u) zero h further = not_one (import_name x.module_name x.name) (slice_get m.types u) h
      by (imports.Func u) (suc i) h further = further i h
      by (imports.Table l) i h further = further i h
      by (imports.Memory l) i h further = further i h
      by (imports.Global g) i h further = further i h

  own_is_one : (o : Option FunctionType) (b : FunctionBody) (c : Option Trees) → own_callee o b c ≡ it → (o ≡ Some t) × (b.locals ≡ more) × (c ≡ Some tree)
  own_is_one None b c h = absurd (cc h)
  own_is_one (Some u) b None h = absurd (cc h)
  own_is_one (Some u) b (Some c) h = let e : u ≡ t = cc h in let f : b.locals ≡ more = cc h in let g : c ≡ tree = cc h in (ap Some e, f, ap Some g)

  abbrev At : List ℕ → List FunctionBody → Type 0
  At ts bs = (i : ℕ) × (n : ℕ) × (b : FunctionBody) × (slice_get ts i ≡ Some n) × (slice_get bs i ≡ Some b) × (own_callee (slice_get m.types n) b (tree_of b.code) ≡ it)

  own_at : (ts : List ℕ) (bs : List FunctionBody) (i : ℕ) → slice_get (own_callees m ts bs) i ≡ Some it → At ts bs
  own_at [] [] i h = absurd (cc h)
  own_at [] (b ∷ bs) i h = absurd (cc h)
  own_at (u ∷ ts) [] i h = absurd (cc h)
  own_at (u ∷ ts) (b ∷ bs) zero h = (0, u, b, refl, refl, cc h)
  own_at (u ∷ ts) (b ∷ bs) (suc i) h = let further = own_at ts bs i h in (suc further.0, further.1, further.2, further.3, further.4, further.5)

  own_code : (i : ℕ) → slice_get (callees m) i ≡ Some it → OwnCode m t more tree
  own_code i h = by (splits (imported_callees m m.imports) (own_callees m m.functions m.bodies) i it h)
    where
      by : Splits (imported_callees m m.imports) (own_callees m m.functions m.bodies) i it → OwnCode m t more tree
      by (inl p) = absurd (no_import m.imports i p)
      by (inr p) =
          let at = own_at m.functions m.bodies p.0 p.2 in
          let is = own_is_one (slice_get m.types at.1) at.2 (tree_of at.2.code) at.5 in
          record { place = at.0; type = at.1; body = at.2; numbered = at.3; stands = at.4; typed = is.0; has_locals = is.1; has_tree = is.2 }

-- ---- ranges, of the two modules' typing

abbrev Ranged : Pair → (globals locals : ℕ) → Instruction → Type 0
Ranged w g k (flat.call a) = IsFunction w a
Ranged w g k (flat.plain p) = PlainInRange k g p
Ranged w g k i = Unit {0}

module _ (w : Pair) where
  abbrev g : ℕ
  g = global_count w

  in_range : (k room : ℕ) (i : Instruction) → Ranged w g k i → Roomy w room i → InRange w g k room i
  in_range k room (flat.call a) p q = p
  in_range k room (flat.call_indirect t) p q = q
  in_range k room (flat.plain x) p q = p
  in_range k room i p q = tt

  -- a plain instruction's numbers, with this many globals before those that the context has
  plain_in : (c : Context) (base : ℕ) (x : Plain) (s : Shape) → base + length c.globals ≤ g → shape c (flat.plain x) ≡ Ok s
      → (b : Bases) → b.globals ≡ base → Ranged w g (length c.locals) (addressed b (flat.plain x))
  plain_in c base (local_get x) s h e b same = let it = is_found NoLocal (slice_get c.locals x) (λ t. Fixed [] (t ∷ [])) s e in slice_get_within c.locals x it.0 it.1
  plain_in c base (local_set x) s h e b same = let it = is_found NoLocal (slice_get c.locals x) (λ t. Fixed (t ∷ []) []) s e in slice_get_within c.locals x it.0 it.1
  plain_in c base (local_tee x) s h e b same = let it = is_found NoLocal (slice_get c.locals x) (λ t. Fixed (t ∷ []) (t ∷ [])) s e in slice_get_within c.locals x it.0 it.1
  plain_in c base (global_get x) s h e b same =
      let it = is_found NoGlobal (slice_get c.globals x) (λ (g : GlobalType). Fixed [] (g.kind ∷ [])) s e in
      let there = slice_get_within c.globals x it.0 it.1 in omega (arith, there, h, same)
  plain_in c base (global_set x) s h e b same =
      let it = is_found NoGlobal (slice_get c.globals x) (λ (g : GlobalType). Fixed (g.kind ∷ []) []) s e in
      let there = slice_get_within c.globals x it.0 it.1 in omega (arith, there, h, same)
  plain_in c base x s h e b same = tt

  first_shaped : (i k : ℕ) (body : FunctionBody) (labels : List (Option ValType)) (x : Instruction) (s : Shape) → k ≡ length ((own_type w.first i).params ++ body.locals)
      → shape (record (body_context w.first i body) { labels = labels }) x ≡ Ok s → Ranged w g k x
  first_shaped i k body labels (flat.call f) s same e =
      let c : Context = record (body_context w.first i body) { labels = labels } in
      let it = is_found NoFunction (type_of c f) (call_shape []) s e in (it.0, typed_first w f it.0 (context_type w.first i f body labels it.0 it.1))
  first_shaped i k body labels (flat.plain x) s same e =
      let c : Context = record (body_context w.first i body) { labels = labels } in
      let less : 0 + length (global_types w.first) ≤ g = omega arith in
      subst (λ k. Ranged w g k (flat.plain x)) (sym same) (as_it x (plain_in c 0 x s less e (record { functions = 0; types = 0; globals = 0 }) refl))
    where
      as_it : (x : Plain) → Ranged w g (length ((own_type w.first i).params ++ body.locals)) (addressed (record { functions = 0; types = 0; globals = 0 }) (flat.plain x))
          → Ranged w g (length ((own_type w.first i).params ++ body.locals)) (flat.plain x)
      as_it (global_get y) h = omega (arith, h)
      as_it (global_set y) h = omega (arith, h)
      as_it y h = h
  first_shaped i k body labels x s same e = tt

  second_shaped : (i k : ℕ) (body : FunctionBody) (labels : List (Option ValType)) (x : Instruction) (s : Shape) → k ≡ length ((own_type w.second i).params ++ body.locals)
      → shape (record (body_context w.second i body) { labels = labels }) x ≡ Ok s → Ranged w g k (addressed (past_first w) x)
  second_shaped i k body labels (flat.call f) s same e =
      let c : Context = record (body_context w.second i body) { labels = labels } in
      let it = is_found NoFunction (type_of c f) (call_shape []) s e in (it.0, typed_second w f it.0 (context_type w.second i f body labels it.0 it.1))
  second_shaped i k body labels (flat.plain x) s same e =
      let c : Context = record (body_context w.second i body) { labels = labels } in
      let less : length (global_types w.first) + length (global_types w.second) ≤ g = omega arith in
      subst (λ k. Ranged w g k (addressed (past_first w) (flat.plain x))) (sym same) (plain_in c (length (global_types w.first)) x s less e (past_first w) refl)
  second_shaped i k body labels x s same e = tt

  many_locals : (m : WasmModule) (i n : ℕ) (t : FunctionType) (body : FunctionBody) (more : List ValType) → slice_get m.functions i ≡ Some n → slice_get m.types n ≡ Some t → body.locals ≡ more
      → length t.params + length more ≡ length ((own_type m i).params ++ body.locals)
  many_locals m i n t body more h e f =
      let own = ap (λ (t : FunctionType). length t.params) (own_is m i n t h e) in
      let same = ap length f in
      let joined = length-append (own_type m i).params body.locals in omega (arith, own, same, joined)

  module _ (first : IsWhole w.first) (second : IsWhole w.second) (t : FunctionType) (more : List ValType) (tree : Trees) where
    abbrev k : ℕ
    k = length t.params + length more

    first_code : OwnCode w.first t more tree → EachIn (Ranged w g k) tree
    first_code own =
        let same = many_locals w.first own.place own.type t own.body more own.numbered own.typed own.has_locals in
        tree_each (Ranged w g k) own.body.code tree
        (all_valid (Ranged w g k) (body_context w.first own.place own.body) (λ labels x s e. first_shaped own.place k own.body labels x s same e) tt tt (λ r. tt) (λ r. tt) (λ r. tt) own.body.code
        (bodies_kept w.first first.is_valid own.place own.body own.stands)) own.has_tree

    second_code : OwnCode (at_addresses (past_first w) w.second) t more tree → EachIn (Ranged w g k) tree
    second_code own =
        let to : FunctionBody → FunctionBody = λ f. record f { code = map (addressed (past_first w)) f.code } in
        let at = is_mapped to (slice_get w.second.bodies own.place) own.body (sym (slice_get-map to w.second.bodies own.place) ∙ own.stands) in
        let code_is : map (addressed (past_first w)) at.0.code ≡ own.body.code = ap (λ (f : FunctionBody). f.code) at.2 in
        let locals_are : at.0.locals ≡ own.body.locals = ap (λ (f : FunctionBody). f.locals) at.2 in
        let same = many_locals w.second own.place own.type t at.0 more own.numbered own.typed (locals_are ∙ own.has_locals) in
        let all = all_valid (λ x. Ranged w g k (addressed (past_first w) x)) (body_context w.second own.place at.0) (λ labels x s e. second_shaped own.place k at.0 labels x s same e) tt tt (λ r. tt)
        (λ r. tt) (λ r. tt) at.0.code (bodies_kept w.second second.is_valid own.place at.0 at.1) in
        tree_each (Ranged w g k) own.body.code tree
        (subst (AllOf (Ranged w g k)) code_is (all_map (λ x. Ranged w g k (addressed (past_first w) x)) (Ranged w g k) (addressed (past_first w)) (λ x h. h) at.0.code all)) own.has_tree

    called_code : (o : Option ℕ) → callee_of w o ≡ Some (a_function t more tree) → EachIn (Ranged w g k) tree
    called_code None e = absurd (cc e)
    called_code (Some a) e = by (splits (callees w.first) (callees (at_addresses (past_first w) w.second)) a (Some (a_function t more tree)) (found_some (slice_get (all_callees w) a) e))
      where
        found_some : (o : Option (Option Callee)) → alone.found o ≡ Some (a_function t more tree) → o ≡ Some (Some (a_function t more tree))
        found_some None e = absurd (cc e)
        found_some (Some c) e = ap Some e

        by : Splits (callees w.first) (callees (at_addresses (past_first w) w.second)) a (Some (a_function t more tree)) → EachIn (Ranged w g k) tree
        by (inl p) = first_code (own_code w.first t more tree a p)
        by (inr p) = second_code (own_code (at_addresses (past_first w) w.second) t more tree p.0 p.2)

  pub callees_are_alike : IsLinkable w → (a : ℕ) → IsFunction w a → IsAlikeCallee w g (called w a) (callee_at (linked w) (number w a))
  callees_are_alike ok a is = by (called w a) refl (numbers_are_callees w ok a is.0 is.1)
    where
      by : (c : Option Callee) → called w a ≡ c → IsMoved w c (callee_at (linked w) (number w a)) → IsAlikeCallee w g c (callee_at (linked w) (number w a))
      by None e h = h
      by (Some (an_import name t)) e h = h
      by (Some (a_function t more tree)) e h =
          let k = length t.params + length more in
          let extra = h.0 in
          let typed = (functions_are_typed (linked w) (whole w ok)).are_typed (number w a) (a_function t (more ++ extra) (moved_tree w k tree)) h.1 in
          let r1 = length-append t.params (more ++ extra) in
          let r2 = length-append more extra in
          let roomy = rooms w k (length extra) (within (linked w) (t.params ++ (more ++ extra)) _ _) (omega (arith, r1, r2)) tree [] _ typed.1 in
          (extra, each_both (Ranged w g k) (Roomy w (length extra)) (InRange w g k (length extra)) (in_range k (length extra)) tree (called_code ok.first ok.second t more tree (end_of w a) e) roomy, h.1)
