-- The functions that stand in tables where a call finds no function of its type: each traps, and is a member of a table.
use Rattle.std.proofs.Common.{◌≡◌, ℕ, suc, Bool, true, false, ◌&&◌, ◌||◌, List, [], ◌∷◌, map, Some, ◌⊎◌, inl, inr, refl, ap, ◌∙◌, subst, arith}
use Rattle.std.specs.Prelude.{◌/◌, ◌%◌, ◌==◌, slice_get, if◌then◌else◌}
use Rattle.std.specs.List.{AllByRecursion, list_any, range_with_len}
use Rattle.std.proofs.lemmas.Bool.{and_parts}
use Rattle.std.proofs.lemmas.Bool.Decides.{nat_tests}
use Rattle.sem_words.specs.declared.word.TrapKind.{TrapKind}
use Rattle.sem_words.specs.declared.word.TrapKind.TheVariants.{TableEntry, OtherType}
use Rattle.sem_words.specs.Words.{trap_code}
use Rattle.wasm_lang.specs.Modules.{WasmModule}
use Rattle.asm_lang.specs.Modules.{Stmt, returns, Function}
use Rattle.wasm2js_translation.specs.Names as names
use Rattle.wasm2js_translation.specs.Names.{Numbered, numbered, spelled}
use Rattle.wasm2js_translation.specs.Words as words
use Rattle.wasm2js_translation.specs.Words.{natural, stmts_in}
use Rattle.wasm2js_lang.specs.Tables.{Cell, a_function, empty, other, masked}
use Rattle.wasm2js_translation.specs.Helpers.{argument}
use Rattle.wasm2js_translation.specs.Modules.{translated}
use Rattle.wasm2js_translation.specs.Tables.{stub_of, cell_name, table_for, stub_function, is_empty, is_other, is_needed, stub_numbers, stubs_for, stubs}
use Rattle.wasm2js_laws_scopes.proofs.HeadNames.{heads_are_provided}
use Rattle.wasm2js_laws_acceptance.proofs.FunctionsStubs.{arguments_own}
use Rattle.wasm2js_laws_acceptance.proofs.NamesFresh.{all_join, all_flat}
use Rattle.wasm2js_lang.specs.Parts.Functions.{Traps, IsStub}
use Rattle.wasm2js_laws_acceptance.proofs.Parts.Lists.{mapped_at, name_in}

-- ---- they trap

module _ (w : WasmModule) where
  pub stub_traps : (name : Numbered) (kind stub : ℕ) → Traps (translated w) kind (stub_function name kind stub)
  stub_traps name kind stub =
      let rest : List Stmt = if stub % 2 == 1 then returns (Some (natural 0)) ∷ [] else [] in
      record {
        more = stmts_in rest;
        first = refl;
        of_host = (heads_are_provided w (numbered name stub) (map argument (range_with_len 0 (stub / 2))) [] (words.trap_call kind ∷ rest) (arguments_own 0 (stub / 2)) refl).traps;
      }

-- ---- what passes a test

record Passes {A : Type 0} (test : A → Bool) (xs : List A) : Type 0 where
  place : ℕ
  item : A
  is_there : slice_get xs place ≡ Some item
  is_so : test item ≡ true

any_found : {A : Type 0} → (test : A → Bool) (xs : List A) → list_any test xs ≡ true → Passes test xs
any_found test [] h = cc h
any_found test (x ∷ xs) h = by (test x) refl h (any_found test xs)
  where
    by : (b : Bool) → test x ≡ b → (b || list_any test xs) ≡ true → (list_any test xs ≡ true → Passes test xs) → Passes test (x ∷ xs)
    by true e h more = record { place = 0; item = x; is_there = refl; is_so = e }
    by false e h more = let it = more h in record { place = suc it.place; item = it.item; is_there = it.is_there; is_so = it.is_so }

equal_numbers : (a b : ℕ) → (a == b) ≡ true → a ≡ b
equal_numbers a b h = grind (arith, nat_tests)

-- ---- each is a member of a table

module _ (w : WasmModule) where
  -- a cell of this kind has the stub of its table
  stub_member : (test : Cell → Bool) (x : Cell) → ((c : Cell) → test c ≡ true → c ≡ x) → (name : Numbered) → ((n : ℕ) → cell_name n x ≡ numbered name n)
      → (kind : TrapKind) → (trap_code kind ≡ trap_code TableEntry) ⊎ (trap_code kind ≡ trap_code OtherType)
      → (n : ℕ) → is_needed w (masked w) test n ≡ true → IsStub (translated w) (stub_function name (trap_code kind) n)
  stub_member test x only name named kind either n needed =
      let it = any_found (λ t. (stub_of w t == n) && list_any test t.cells) (masked w) needed in
      let parts = and_parts (stub_of w it.item == n) (list_any test it.item.cells) it.is_so in
      let is_stub = equal_numbers (stub_of w it.item) n parts.0 in
      let cell = any_found test it.item.cells parts.1 in
      let is_name : spelled (cell_name (stub_of w it.item) cell.item) ≡ spelled (numbered name n) =
      ap (λ c. spelled (cell_name (stub_of w it.item) c)) (only cell.item cell.is_so) ∙ ap (λ n. spelled (cell_name n x)) is_stub ∙ ap spelled (named n) in
      let there = mapped_at (λ c. spelled (cell_name (stub_of w it.item) c)) it.item.cells cell.place cell.item cell.is_there in
      record {
        table = table_for w it.item;
        place = it.place;
        is_table = mapped_at (table_for w) (masked w) it.place it.item it.is_there;
        is_member = name_in (table_for w it.item).members cell.place (spelled (numbered name n)) (there ∙ ap Some is_name);
        traps = by either;
      }
    where
      by : (trap_code kind ≡ trap_code TableEntry) ⊎ (trap_code kind ≡ trap_code OtherType)
          → Traps (translated w) (trap_code TableEntry) (stub_function name (trap_code kind) n) ⊎ Traps (translated w) (trap_code OtherType) (stub_function name (trap_code kind) n)
      by (inl e) = inl (subst (λ k. Traps (translated w) k (stub_function name (trap_code kind) n)) e (stub_traps w name (trap_code kind) n))
      by (inr e) = inr (subst (λ k. Traps (translated w) k (stub_function name (trap_code kind) n)) e (stub_traps w name (trap_code kind) n))

  only_empty : (c : Cell) → is_empty c ≡ true → c ≡ empty
  only_empty empty h = refl
  only_empty (a_function f) h = cc h
  only_empty other h = cc h

  only_other : (c : Cell) → is_other c ≡ true → c ≡ other
  only_other other h = refl
  only_other (a_function f) h = cc h
  only_other empty h = cc h

  where_needed : (b : Bool) (f : Function) → (b ≡ true → IsStub (translated w) f) → AllByRecursion (IsStub (translated w)) (if b then f ∷ [] else [])
  where_needed true f h = (h refl, tt)
  where_needed false f h = tt

  pub stubs_are_members : AllByRecursion (IsStub (translated w)) (stubs w)
  stubs_are_members =
      all_flat (IsStub (translated w)) (stubs_for w (masked w)) stub_numbers
      (λ n. all_join (IsStub (translated w)) _ _
      (where_needed (is_needed w (masked w) is_empty n) (stub_function names.no_entry 5 n) (stub_member is_empty empty only_empty names.no_entry (λ n. refl) TableEntry (inl refl) n))
      (where_needed (is_needed w (masked w) is_other n) (stub_function names.other_entry 6 n) (stub_member is_other other only_other names.other_entry (λ n. refl) OtherType (inr refl) n)))
