-- The items of a section, one after another.
use Rattle.std.proofs.Common.{◌≡◌, ℕ, zero, suc, ◌+◌, ◌<◌, Bool, true, false, ◌||◌, List, [], ◌∷◌, ◌++◌, length, get_or, take, map, Some, None, add-one, refl, sym, ap, ◌∙◌, arith}
use Rattle.std.specs.Prelude.{slice_get}
use Rattle.std.specs.Option.{option_map}
use Rattle.std.proofs.lemmas.Option.{slice_get-get_or, slice_get-map, slice_get_within}
use Rattle.wasm_lang.specs.Modules.{Imported, WasmModule}
use Rattle.wasm_lang_valid.specs.declared.section.Section.{Section}
use Rattle.wasm_lang_valid.specs.declared.section.Section.TheVariants as sections
use Rattle.wasm_lang_valid.specs.ModuleRules.{is_table, is_memory, imports_table, imports_memory, item_rule, import_rule, at}
use Rattle.wasm_lang_valid.specs.declared.rule.Rule.{Rule}
use Rattle.wasm_validate.specs.declared.fault.ItemFault.TheVariants.{Broken}
use Rattle.wasm_validate.specs.Sections.{FineItems, IsItemFault}

-- the item of a list at a place, and of what the list stands for
pub item_at : {A B : Type 0} (view : A → B) (xs : List A) (i : ℕ) (x : A) → x ≡ get_or xs i x → i < length xs → slice_get (map view xs) i ≡ Some (view x)
item_at view xs i x is h = slice_get-map view xs i ∙ ap (option_map view) (slice_get-get_or xs i x h ∙ ap Some (sym is))

-- the instructions up to a place, and the one there
pub one_longer : {A : Type 0} (xs : List A) (place : ℕ) (x : A) → slice_get xs place ≡ Some x → take (place + 1) xs ≡ take place xs ++ x ∷ []
one_longer {A = A} xs place x e = rw add-one (by xs place e)
  where
    by : (xs : List A) (place : ℕ) → slice_get xs place ≡ Some x → take (suc place) xs ≡ take place xs ++ x ∷ []
    by [] place e = cc
    by (y ∷ ys) zero e = let h : y ≡ x = cc in ap (λ z. z ∷ []) h
    by (y ∷ ys) (suc n) e = ap (λ zs. y ∷ zs) (by ys n e)

or_assoc : (a b d : Bool) → a || (b || d) ≡ (a || b) || d
or_assoc true b d = refl
or_assoc false b d = refl

or_false : (a : Bool) → a || false ≡ a
or_false true = refl
or_false false = refl

table_more : (is : List Imported) (x : Imported) → imports_table (is ++ x ∷ []) ≡ imports_table is || is_table x.kind
table_more [] x = or_false (is_table x.kind)
table_more (i ∷ is) x = ap (λ b. is_table i.kind || b) (table_more is x) ∙ or_assoc (is_table i.kind) (imports_table is) (is_table x.kind)

memory_more : (is : List Imported) (x : Imported) → imports_memory (is ++ x ∷ []) ≡ imports_memory is || is_memory x.kind
memory_more [] x = or_false (is_memory x.kind)
memory_more (i ∷ is) x = ap (λ b. is_memory i.kind || b) (memory_more is x) ∙ or_assoc (is_memory i.kind) (imports_memory is) (is_memory x.kind)

pub fine_more : (m : WasmModule) (s : Section) (i : ℕ) → FineItems m s i → item_rule m s i ≡ None → FineItems m s (i + 1)
fine_more m s i fine here k h = grind (arith, fine, here)

-- one import more
pub record ImportsOn (m : WasmModule) (i : ℕ) (table memory : Bool) : Type 0 where
  pub fine : FineItems m sections.Imports i
  pub has_table : table ≡ imports_table (take i m.imports)
  pub has_memory : memory ≡ imports_memory (take i m.imports)

module _ (m : WasmModule) (i : ℕ) (x : Imported) (table memory : Bool) (stands : slice_get m.imports i ≡ Some x) (on : ImportsOn m i table memory) where
  pub import_fine : import_rule m (take i m.imports) x.kind ≡ None → FineItems m sections.Imports (i + 1)
  import_fine e = fine_more m sections.Imports i on.fine (ap (λ o. at o (λ x. import_rule m (take i m.imports) x.kind)) stands ∙ e)

  pub import_table : table || is_table x.kind ≡ imports_table (take (i + 1) m.imports)
  import_table = ap (λ b. b || is_table x.kind) on.has_table ∙ sym (table_more (take i m.imports) x) ∙ ap imports_table (sym (one_longer m.imports i x stands))

  pub import_memory : memory || is_memory x.kind ≡ imports_memory (take (i + 1) m.imports)
  import_memory = ap (λ b. b || is_memory x.kind) on.has_memory ∙ sym (memory_more (take i m.imports) x) ∙ ap imports_memory (sym (one_longer m.imports i x stands))

-- the first item that breaks a rule
pub item_fault : {A : Type 0} (m : WasmModule) (s : Section) (xs : List A) (i : ℕ) (x : A) (rule : Rule) → slice_get xs i ≡ Some x → FineItems m s i → item_rule m s i ≡ Some rule → IsItemFault m s (length xs) (Broken i rule)
item_fault m s xs i x rule stands fine here = (slice_get_within xs i x stands, fine, here)
