-- The numbers of functions, and the exports that the code tells.
use Rattle.std.specs.Prelude.{◌≡◌, ℕ, List, length, map, Option, Some, None}
use Rattle.std.specs.Borrow.{Bor}
use Rattle.std.specs.Str.{bytes_eq}
use Rattle.indexmap.specs.IndexMap.{IndexMap, get_by}
use Rattle.sem_words.specs.declared.list.List.{List as Listed}
use Rattle.sem_words.specs.Lists.{list_items, text_bytes}
use Rattle.asm_lang.specs.Modules.{Function, Export}
use Rattle.asm_lang_valid.specs.Refusal.{Exported, function_number}
use Rattle.asm_validate_facts.specs.declared.exports.ExportOf.{ExportOf}
use Rattle.asm_validate_facts.specs.declared.exports.Numbers.{Numbers}

abbrev pub Bytes : Type 0
Bytes = List ℕ

abbrev pub Functions : Type 0
Functions = List Function

abbrev pub number_or : Option ℕ → ℕ → ℕ
number_or None otherwise = otherwise
number_or (Some n) otherwise = n

-- what a map has under a name
abbrev pub number_seen : {S : Type 0} → IndexMap (Bor (List ℕ)) ℕ S → List ℕ → ℕ → ℕ
number_seen m n otherwise = number_or (get_by (λ k. bytes_eq n k.now) m) otherwise

pub record IsNumbered (s : Numbers) (fs : List Function) : Type 0 where
  pub count : s.count ≡ length fs
  pub known : (n : List ℕ) → number_seen s.names n (length fs) ≡ function_number fs n

abbrev pub numbered : List Function → List ℕ → List ℕ → Exported
numbered fs k f = record { key = k; function = function_number fs f }

abbrev pub all_numbered : List Function → List Export → List Exported
all_numbered fs es = map (λ (e : Export). numbered fs e.key e.function) es

abbrev pub export_said : ExportOf → Exported
export_said e = record { key = text_bytes e.key; function = e.function }

abbrev pub exports_said : Listed ExportOf → List Exported
exports_said l = map export_said (list_items l)
