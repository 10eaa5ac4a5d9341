-- A call by an entry of the pair, and the guarded one of the linked module: the guard comes to the index of the same entry, or to one outside every
-- table.
use Rattle.std.proofs.Common.{◌≡◌, ℕ, zero, suc, ◌+◌, ◌<◌, ◌≤◌, ◌%◌, ◌^◌, Bool, true, false, List, [], ◌∷◌, ◌++◌, length, Option, Some, None, refl, ap, ◌∙◌, subst, arith}
use Rattle.std.specs.Prelude.{slice_get, slice_set, option_map, if◌then◌else◌, nat_lt, ◌==◌}
use Rattle.std.proofs.lemmas.Bool.Decides.{nat_tests}
use Rattle.std.proofs.lemmas.Option.{slice_get-map, slice_get_past}
use Rattle.std.proofs.Math.Nat.{mod-eq_of_lt}
use Rattle.sem_words.specs.declared.word.Word.{Word}
use Rattle.sem_words.specs.declared.word.Word.TheVariants.{W32, W64}
use Rattle.sem_words.specs.declared.word.Bin.TheVariants.{Add}
use Rattle.sem_words.specs.declared.word.Rel.TheVariants.{LtU}
use Rattle.sem_words.specs.declared.word.TrapKind.TheVariants as kinds
use Rattle.session_lang.specs.Observation.{trapped}
use Rattle.wasm_lang.specs.Instructions.{const32, local_get, local_tee, bin32, rel32, select}
use Rattle.wasm_lang.specs.Modules.{FunctionType, WasmModule}
use Rattle.wasm_lang_exec.specs.Code.{call_indirect, plain, Trees, ◌▹◌}
use Rattle.wasm_lang_exec.specs.Store.{Store}
use Rattle.wasm_lang_exec.specs.Plain.{flag, pushed, with_local}
use Rattle.wasm_lang_exec.specs.Reductions.{Callee, an_import, a_function, callee_at, of_type, do_call, after_effect, Config, Code, stops}
use Rattle.wasm_laws_drive.specs.Drive.{Ended, Stuck, at, driven, drive}
use Rattle.wasm_laws_drive.specs.Equations as equations
use Rattle.wasm_laws_drive.proofs.Instructions.{call_indirect_enters}
use Rattle.wasm_link_lang.specs.Pairs.{Pair, all_types, called}
use Rattle.wasm_link_lang.specs.Reductions.{entries, call_entry, reduce_code}
use Rattle.wasm_link_code.specs.Numbers.{number}
use Rattle.wasm_link_code.specs.Code.{outside}
use Rattle.wasm_link_code.specs.Trees.{bounded_tree, entry_tree, moved_tree}
use Rattle.wasm_link_laws_sessions.specs.Alike.{IsFunction, HasRoom, Fine, IsAlikeCallee}
use Rattle.wasm_link_laws_sessions.proofs.Steps.{st, Holds, Ends, Follows, one_more, ends_after_one}
use Rattle.wasm_link_laws_sessions.proofs.Calls.{calls}

-- ---- the word of room past the locals

abbrev rest_of : List Word → List Word
rest_of [] = []
rest_of (x ∷ room) = room

at_room : (ls room : List Word) → 1 ≤ length room → (x : Word) × (slice_get (ls ++ room) (length ls) ≡ Some x)
at_room [] [] e = absurd (omega (arith, e))
at_room [] (x ∷ room) e = (x, refl)
at_room (l ∷ ls) room e = at_room ls room e

put_room : (ls room : List Word) (v : Word) → 1 ≤ length room → slice_set (ls ++ room) (length ls) v ≡ ls ++ (v ∷ rest_of room)
put_room [] [] v e = absurd (omega (arith, e))
put_room [] (x ∷ room) v e = refl
put_room (l ∷ ls) room v e = ap (λ ls. l ∷ ls) (put_room ls room v e)

many_rest : (room : List Word) (v : Word) → 1 ≤ length room → length (v ∷ rest_of room) ≡ length room
many_rest [] v e = absurd (omega (arith, e))
many_rest (x ∷ room) v e = refl

get_room : (ls rest : List Word) (v : Word) → slice_get (ls ++ (v ∷ rest)) (length ls) ≡ Some v
get_room [] rest v = refl
get_room (l ∷ ls) rest v = get_room ls rest v

-- ---- entries

lt_true : (a b : ℕ) → nat_lt a b ≡ true → a < b
lt_true a b h = grind (arith, nat_tests)

lt_false : (a b : ℕ) → nat_lt a b ≡ false → b ≤ a
lt_false a b h = grind (arith, nat_tests)

-- a place in a table that begins here
abbrev past : ℕ → ℕ → ℕ
past zero i = i
past (suc base) i = suc base + i

past_is : (base i : ℕ) → past base i ≡ base + i
past_is zero i = omega arith
past_is (suc base) i = refl

abbrev seen : List (Option ℕ) → Bool → ℕ → Option (Option ℕ)
seen table b place = if b then slice_get table place else None

seen_there : (table : List (Option ℕ)) (b : Bool) (place : ℕ) (a : ℕ) → seen table b place ≡ Some (Some a) → slice_get table place ≡ Some (Some a)
seen_there table true place a e = e
seen_there table false place a e = absurd (cc e)

-- ---- types

of_one_type : (w : Pair) (g : ℕ) (o : Option FunctionType) (c c' : Option Callee) → IsAlikeCallee w g c c' → of_type o c' ≡ of_type o c
of_one_type w g o None c' alike = ap (of_type o) alike
of_one_type w g o (Some (an_import name t)) c' alike = ap (of_type o) alike
of_one_type w g None (Some (a_function t more body)) c' alike = ap (of_type None) alike.2
of_one_type w g (Some u) (Some (a_function t more body)) c' alike = ap (of_type (Some u)) alike.2

module _ (w : Pair) (m : WasmModule) (g : ℕ) (order : List Word → List Word)
    (callees : (a : ℕ) → IsFunction w a → IsAlikeCallee w g (called w a) (callee_at m (number w a)))
    (types : m.types ≡ all_types w) (small : entries w.first + entries w.second < outside) (locals room : List Word) where
  abbrev k : ℕ
  k = length locals

  abbrev r : ℕ
  r = length room

  abbrev all : List Word
  all = locals ++ room

  -- ---- once the entry is found

  module _ (cost : ℕ) (some : 1 ≤ cost) (few : cost ≤ 6) (x : Config) (rest : List Word) (same_room : length rest ≡ length room) (t : ℕ) (values : List Word) (code : Trees) (s : Store)
      (fine : Fine w g k r code) (holds : Holds w m g order s) where
    abbrev code' : Trees
    code' = moved_tree w k code

    entered_by : (e : Option (Option ℕ)) → ((a : ℕ) → e ≡ Some (Some a) → IsFunction w a)
        → ((q : ℕ) → drive m (cost + q) x all (st w m g order s) ≡ equations.called_by m t (option_map (option_map (number w)) e) code' (at values (locals ++ rest) (st w m g order s) q))
        → Follows w m g order (call_entry w t e values code locals s) x locals room s
    entered_by None inside takes = record { cost = cost; few = few; ends = takes }
    entered_by (Some None) inside takes = record { cost = cost; few = few; ends = takes }
    entered_by (Some (Some a)) inside takes = by (of_type (slice_get (all_types w) t) (called w a)) refl
      where
        alike : IsAlikeCallee w g (called w a) (callee_at m (number w a))
        alike = callees a (inside a refl)

        tested : of_type (slice_get m.types t) (callee_at m (number w a)) ≡ of_type (slice_get (all_types w) t) (called w a)
        tested = ap (λ ts. of_type (slice_get ts t) (callee_at m (number w a))) types ∙ of_one_type w g (slice_get (all_types w) t) (called w a) (callee_at m (number w a)) alike

        chosen : (b : Bool) → of_type (slice_get (all_types w) t) (called w a) ≡ b → (q : ℕ)
            → drive m (cost + q) x all (st w m g order s)
            ≡ (if b then equations.called m (callee_at m (number w a)) code' (at values (locals ++ rest) (st w m g order s) q) else Ended (trapped kinds.OtherType) (st w m g order s))
        chosen b e q =
            takes q
            ∙ ap (λ b. if b then equations.called m (callee_at m (number w a)) code' (at values (locals ++ rest) (st w m g order s) q) else Ended (trapped kinds.OtherType) (st w m g order s)) (tested ∙ e)

        by : (b : Bool) → of_type (slice_get (all_types w) t) (called w a) ≡ b
            → Follows w m g order (if b then do_call (called w a) values code locals s else stops (trapped kinds.OtherType) s) x locals room s
        by true e = calls w m g order locals room cost some few x rest same_room values code s fine holds (called w a) (callee_at m (number w a)) alike (chosen true e)
        by false e = record { cost = cost; few = few; ends = chosen false e }

  -- ---- the reductions of the guard

  five : (q : ℕ) → 5 + q ≡ suc (suc (suc (suc (suc q))))
  five q = omega arith

  six : (q : ℕ) → 6 + q ≡ suc (suc (suc (suc (suc (suc q)))))
  six q = omega arith

  tees : 1 ≤ length room → (q : ℕ) (v : Word) (values : List Word) (code : Trees) (s : Store)
      → drive m (suc q) (Code (v ∷ values) (plain (local_tee k) ▹ code)) all s ≡ drive m q (Code (v ∷ values) code) (locals ++ (v ∷ rest_of room)) s
  tees e q v values code s =
      let there = at_room locals room e in
      ap (λ o. driven (drive m q) q (after_effect (with_local k v (v ∷ values) o all s) code s) all s) there.1
      ∙ ap (λ ls. drive m q (Code (v ∷ values) code) ls s) (put_room locals room v e)

  gets : (q : ℕ) (v : Word) (values : List Word) (code : Trees) (s : Store)
      → drive m (suc q) (Code values (plain (local_get k) ▹ code)) (locals ++ (v ∷ rest_of room)) s ≡ drive m q (Code (v ∷ values) code) (locals ++ (v ∷ rest_of room)) s
  gets q v values code s = ap (λ o. driven (drive m q) q (after_effect (pushed o values (locals ++ (v ∷ rest_of room)) s) code s) (locals ++ (v ∷ rest_of room)) s) (get_room locals (rest_of room) v)

  selects : (q n i place : ℕ) (b : Bool) → nat_lt i n ≡ b → (values : List Word) (code : Trees) (ls : List Word) (s : Store)
      → drive m (suc (suc q)) (Code (W32 i ∷ W32 outside ∷ W32 place ∷ values) (plain (const32 n) ▹ plain (rel32 LtU) ▹ plain select ▹ code)) ls s
      ≡ drive m q (Code (W32 (if b then place else outside) ∷ values) code) ls s
  selects q n i place true e values code ls s = ap (λ b. drive m q (Code ((if flag b == 0 then W32 outside else W32 place) ∷ values) code) ls s) e
  selects q n i place false e values code ls s = ap (λ b. drive m q (Code ((if flag b == 0 then W32 outside else W32 place) ∷ values) code) ls s) e

  bounds : (q n i place : ℕ) (b : Bool) → nat_lt i n ≡ b → (values : List Word) (code : Trees) (s : Store)
      → drive m (suc (suc (suc q))) (Code (W32 place ∷ values) (bounded_tree k n code)) (locals ++ (W32 i ∷ rest_of room)) s
      ≡ drive m q (Code (W32 (if b then place else outside) ∷ values) code) (locals ++ (W32 i ∷ rest_of room)) s
  bounds q n i place b e values code s =
      gets (suc (suc q)) (W32 i) (W32 outside ∷ W32 place ∷ values) (plain (const32 n) ▹ plain (rel32 LtU) ▹ plain select ▹ code) s
      ∙ selects q n i place b e values code (locals ++ (W32 i ∷ rest_of room)) s

  -- ---- the entry at the index that the guard comes to

  moved_get : (s : Store) (i : ℕ) → slice_get (st w m g order s).table i ≡ option_map (option_map (number w)) (slice_get s.table i)
  moved_get s i = slice_get-map (option_map (number w)) s.table i

  found_there : (s : Store) → Holds w m g order s → (b : Bool) (place : ℕ) → slice_get (st w m g order s).table (if b then place else outside) ≡ option_map (option_map (number w)) (seen s.table b place)
  found_there s holds true place = moved_get s place
  found_there s holds false place =
      let many = holds.1 in
      let past : length s.table ≤ outside = omega (arith, many, small) in
      moved_get s outside ∙ ap (option_map (option_map (number w))) (slice_get_past s.table outside past)

  inside_of : (s : Store) → Holds w m g order s → (b : Bool) (place : ℕ) (a : ℕ) → seen s.table b place ≡ Some (Some a) → IsFunction w a
  inside_of s holds b place a e = holds.2 place a (seen_there s.table b place a e)

  calls_by : (q t : ℕ) (b : Bool) (place : ℕ) (values : List Word) (code : Trees) (ls : List Word) (s : Store) → Holds w m g order s
      → drive m (suc q) (Code (W32 (if b then place else outside) ∷ values) (call_indirect t ▹ code)) ls (st w m g order s)
      ≡ equations.called_by m t (option_map (option_map (number w)) (seen s.table b place)) code (at values ls (st w m g order s) q)
  calls_by q t b place values code ls s holds =
      call_indirect_enters m t code (at (W32 (if b then place else outside) ∷ values) ls (st w m g order s) (suc q))
      ∙ ap (λ e. equations.called_by m t e code (at values ls (st w m g order s) q)) (found_there s holds b place)

  -- ---- each form of the call

  abbrev By : (other base n t i : ℕ) → List Word → Trees → Store → Type 0
  By other base n t i values code s =
      Follows w m g order (call_entry w t (seen s.table (nat_lt i n) (past base i)) values code locals s) (Code (W32 i ∷ values) (entry_tree other k base n t (moved_tree w k code))) locals room s

  -- the whole table is the module's own
  alone_in : (n t i : ℕ) (values : List Word) (code : Trees) (s : Store) → Fine w g k r code → Holds w m g order s → length s.table ≡ n → By 0 0 n t i values code s
  alone_in n t i values code s fine holds many =
      entered_by 1 (omega arith) (omega arith) (Code (W32 i ∷ values) (call_indirect t ▹ moved_tree w k code)) room refl t values code s fine holds (seen s.table (nat_lt i n) i)
      (inside_of s holds (nat_lt i n) i)
      (λ q. ap (λ j. drive m j (Code (W32 i ∷ values) (call_indirect t ▹ moved_tree w k code)) all (st w m g order s)) (one_more w m g order q)
      ∙ call_indirect_enters m t (moved_tree w k code) (at (W32 i ∷ values) all (st w m g order s) (suc q))
      ∙ ap (λ e. equations.called_by m t e (moved_tree w k code) (at values all (st w m g order s) q)) (moved_get s i ∙ ap (option_map (option_map (number w))) (by (nat_lt i n) refl)))
    where
      by : (b : Bool) → nat_lt i n ≡ b → slice_get s.table i ≡ seen s.table b i
      by true e = refl
      by false e =
          let h = lt_false i n e in
          slice_get_past s.table i (omega (arith, h, many))

  -- the table begins with the module's own part
  at_front : 1 ≤ length room → (other n t i : ℕ) (values : List Word) (code : Trees) (s : Store) → Fine w g k r code → Holds w m g order s → By (suc other) 0 n t i values code s
  at_front one other n t i values code s fine holds =
      entered_by 5 (omega arith) (omega arith) (Code (W32 i ∷ values) (entry_tree (suc other) k 0 n t (moved_tree w k code))) (W32 i ∷ rest_of room) (many_rest room (W32 i) one) t values code s fine holds
      (seen s.table (nat_lt i n) i) (inside_of s holds (nat_lt i n) i)
      (λ q. ap (λ j. drive m j (Code (W32 i ∷ values) (entry_tree (suc other) k 0 n t (moved_tree w k code))) all (st w m g order s)) (five q)
      ∙ tees one (suc (suc (suc (suc q)))) (W32 i) values (bounded_tree k n (call_indirect t ▹ moved_tree w k code)) (st w m g order s)
      ∙ bounds (suc q) n i i (nat_lt i n) refl values (call_indirect t ▹ moved_tree w k code) (st w m g order s)
      ∙ calls_by q t (nat_lt i n) i values (moved_tree w k code) (locals ++ (W32 i ∷ rest_of room)) s holds)

  -- .. or with the other's
  past_front : 1 ≤ length room → (other base n t i : ℕ) (values : List Word) (code : Trees) (s : Store) → Fine w g k r code → Holds w m g order s → suc base + n ≤ length s.table
      → By (suc other) (suc base) n t i values code s
  past_front one other base n t i values code s fine holds inside =
      entered_by 6 (omega arith) (omega arith) (Code (W32 i ∷ values) (entry_tree (suc other) k (suc base) n t (moved_tree w k code))) (W32 i ∷ rest_of room) (many_rest room (W32 i) one) t values code s fine holds
      (seen s.table (nat_lt i n) (suc base + i)) (inside_of s holds (nat_lt i n) (suc base + i))
      (λ q. ap (λ j. drive m j (Code (W32 i ∷ values) (entry_tree (suc other) k (suc base) n t (moved_tree w k code))) all (st w m g order s)) (six q)
      ∙ tees one (suc (suc (suc (suc (suc q))))) (W32 i) values (plain (const32 (suc base)) ▹ plain (bin32 Add) ▹ bounded_tree k n (call_indirect t ▹ moved_tree w k code)) (st w m g order s)
      ∙ bounds (suc q) n i ((i + suc base) % 2 ^ 32) (nat_lt i n) refl values (call_indirect t ▹ moved_tree w k code) (st w m g order s)
      ∙ ap (λ j. drive m (suc q) (Code (W32 j ∷ values) (call_indirect t ▹ moved_tree w k code)) (locals ++ (W32 i ∷ rest_of room)) (st w m g order s)) (sum_is (nat_lt i n) refl)
      ∙ calls_by q t (nat_lt i n) (suc base + i) values (moved_tree w k code) (locals ++ (W32 i ∷ rest_of room)) s holds)
    where
      sum_is : (b : Bool) → nat_lt i n ≡ b → (if b then (i + suc base) % 2 ^ 32 else outside) ≡ (if b then suc base + i else outside)
      sum_is true e =
          let less = lt_true i n e in
          let many = holds.1 in
          let below : i + suc base < 2 ^ 32 = omega (arith, less, many, small, inside) in
          let turned : i + suc base ≡ suc base + i = omega arith in
          mod-eq_of_lt below ∙ turned
      sum_is false e = refl

  -- ---- without an index there is no reduction

  three : (q : ℕ) → 3 + q ≡ suc (suc (suc q))
  three q = omega arith

  two : (q : ℕ) → 2 + q ≡ suc (suc q)
  two q = omega arith

  abbrev Unindexed : List Word → Type 0
  Unindexed values = (other base n t : ℕ) (code : Trees) (s : Store) → HasRoom other r
      → Ends w m g order (Code values (entry_tree other k base n t (moved_tree w k code))) locals room s (Stuck (st w m g order s))

  no_index : Unindexed []
  no_index zero base n t code s one = ends_after_one w m g order locals room (Code [] (call_indirect t ▹ moved_tree w k code)) s (Stuck (st w m g order s)) (λ q. refl)
  no_index (suc other) zero n t code s one =
      ends_after_one w m g order locals room (Code [] (entry_tree (suc other) k 0 n t (moved_tree w k code))) s (Stuck (st w m g order s)) (λ q. refl)
  no_index (suc other) (suc base) n t code s one =
      ends_after_one w m g order locals room (Code [] (entry_tree (suc other) k (suc base) n t (moved_tree w k code))) s (Stuck (st w m g order s)) (λ q. refl)

  wide_index : (x : ℕ) (values : List Word) → Unindexed (W64 x ∷ values)
  wide_index x values zero base n t code s one =
      ends_after_one w m g order locals room (Code (W64 x ∷ values) (call_indirect t ▹ moved_tree w k code)) s (Stuck (st w m g order s)) (λ q. refl)
  wide_index x values (suc other) zero n t code s one = record {
    cost = 3;
    few = omega arith;
    ends = λ q.
        ap (λ j. drive m j (Code (W64 x ∷ values) (entry_tree (suc other) k 0 n t (moved_tree w k code))) all (st w m g order s)) (three q)
        ∙ tees one (suc (suc q)) (W64 x) values (bounded_tree k n (call_indirect t ▹ moved_tree w k code)) (st w m g order s)
        ∙ gets (suc q) (W64 x) (W32 outside ∷ W64 x ∷ values) (plain (const32 n) ▹ plain (rel32 LtU) ▹ plain select ▹ call_indirect t ▹ moved_tree w k code) (st w m g order s);
  }
  wide_index x values (suc other) (suc base) n t code s one = record {
    cost = 2;
    few = omega arith;
    ends = λ q.
        ap (λ j. drive m j (Code (W64 x ∷ values) (entry_tree (suc other) k (suc base) n t (moved_tree w k code))) all (st w m g order s)) (two q)
        ∙ tees one (suc q) (W64 x) values (plain (const32 (suc base)) ▹ plain (bin32 Add) ▹ bounded_tree k n (call_indirect t ▹ moved_tree w k code)) (st w m g order s);
  }

  -- ---- by the type's address

  by_first : (other : ℕ) → entries w.second ≡ other → HasRoom other r → (t i : ℕ) (values : List Word) (code : Trees) (s : Store) → Fine w g k r code → Holds w m g order s
      → By other 0 (entries w.first) t i values code s
  by_first zero e one t i values code s fine holds = let many = holds.1 in alone_in (entries w.first) t i values code s fine holds (omega (arith, many, e))
  by_first (suc other) e one t i values code s fine holds = at_front one other (entries w.first) t i values code s fine holds

  by_second : (other : ℕ) → entries w.first ≡ other → HasRoom other r → (t i : ℕ) (values : List Word) (code : Trees) (s : Store) → Fine w g k r code → Holds w m g order s
      → By other other (entries w.second) t i values code s
  by_second zero e one t i values code s fine holds = let many = holds.1 in alone_in (entries w.second) t i values code s fine holds (omega (arith, many, e))
  by_second (suc other) e one t i values code s fine holds = let many = holds.1 in past_front one other other (entries w.second) t i values code s fine holds (omega (arith, many, e))

  abbrev Steps : Trees → List Word → Store → Type 0
  Steps code values s = Follows w m g order (reduce_code w code values locals s) (Code values (moved_tree w k code)) locals room s

  pub guarded : (t : ℕ) (code : Trees) (values : List Word) (s : Store) → Fine w g k r (call_indirect t ▹ code) → Holds w m g order s → Steps (call_indirect t ▹ code) values s
  guarded t code (W32 i ∷ values) s fine holds = by (nat_lt t (length w.first.types)) fine.0
    where
      by : (b : Bool) → HasRoom (if b then entries w.second else entries w.first) r
          → Follows w m g order
          (call_entry w t (if b then seen s.table (nat_lt i (entries w.first)) i else seen s.table (nat_lt i (entries w.second)) (entries w.first + i)) values code locals s)
          (Code (W32 i ∷ values) (if b then entry_tree (entries w.second) k 0 (entries w.first) t (moved_tree w k code)
          else entry_tree (entries w.first) k (entries w.first) (entries w.second) t (moved_tree w k code))) locals room s
      by true one = by_first (entries w.second) refl one t i values code s fine.1 holds
      by false one =
          subst (λ j. Follows w m g order (call_entry w t (seen s.table (nat_lt i (entries w.second)) j) values code locals s)
          (Code (W32 i ∷ values) (entry_tree (entries w.first) k (entries w.first) (entries w.second) t (moved_tree w k code))) locals room s) (past_is (entries w.first) i)
          (by_second (entries w.first) refl one t i values code s fine.1 holds)
  guarded t code (W64 x ∷ values) s fine holds = by (nat_lt t (length w.first.types)) fine.0
    where
      by : (b : Bool) → HasRoom (if b then entries w.second else entries w.first) r
          → Ends w m g order (Code (W64 x ∷ values) (if b then entry_tree (entries w.second) k 0 (entries w.first) t (moved_tree w k code)
          else entry_tree (entries w.first) k (entries w.first) (entries w.second) t (moved_tree w k code))) locals room s (Stuck (st w m g order s))
      by true one = wide_index x values (entries w.second) 0 (entries w.first) t code s one
      by false one = wide_index x values (entries w.first) (entries w.first) (entries w.second) t code s one
  guarded t code [] s fine holds = by (nat_lt t (length w.first.types)) fine.0
    where
      by : (b : Bool) → HasRoom (if b then entries w.second else entries w.first) r
          → Ends w m g order (Code [] (if b then entry_tree (entries w.second) k 0 (entries w.first) t (moved_tree w k code)
          else entry_tree (entries w.first) k (entries w.first) (entries w.second) t (moved_tree w k code))) locals room s (Stuck (st w m g order s))
      by true one = no_index (entries w.second) 0 (entries w.first) t code s one
      by false one = no_index (entries w.first) (entries w.first) (entries w.second) t code s one
