-- The segments of a module that can be translated lie at constant places in its memory.
use Rattle.std.proofs.Common.{◌≡◌, ℕ, zero, suc, ◌+◌, ◌^◌, ◌<◌, ◌≤◌, true, false, List, [], ◌∷◌, ◌++◌, length, Option, Some, None, refl, sym, ap, ◌∙◌, subst, arith}
use Rattle.std.specs.Prelude.{slice_get, All, nat_lt, nat_eq}
use Rattle.std.specs.List.{AllByRecursion, flat_map}
use Rattle.std.proofs.lemmas.Bool.{and_parts}
use Rattle.std.proofs.lemmas.Bool.Decides.{nat_tests}
use Rattle.std.proofs.lemmas.List.Elements.{recursion_from_All}
use Rattle.std.proofs.lemmas.Option.{slice_get_within}
use Rattle.wasm_lang.specs.Modules.{ElementSegment, DataSegment, WasmModule}
use Rattle.wasm_lang_valid.specs.declared.section.Section.TheVariants as sections
use Rattle.wasm_lang_valid.specs.ModuleRules.{has_memory, is_memory_number, segment_rule, at}
use Rattle.wasm_lang_valid.specs.Profile.{or_zero, is_global_offset, constant_offset, passes, global_segment, offset_from_import, outside_memory, segment_outside, table_length, memory_bytes}
use Rattle.wasm_laws_sound.proofs.Functions.{meets_none, meets_rest}
use Rattle.asm_lang.specs.Modules.{Module}
use Rattle.asm_lang_valid.specs.declared.meaning.Element.TheVariants.{Int32}
use Rattle.asm_lang_valid.specs.Scope.{a_view, a_function}
use Rattle.asm_lang_valid.specs.Typing.{Scope, named}
use Rattle.asm_lang_valid.specs.Typed.{scope_of}
use Rattle.wasm2js_lang.specs.Parts.Functions.{is_long, has_long_segments}
use Rattle.wasm2js_translation.specs.Names.{fixed, view_of_words, data_words, data_zeros, init}
use Rattle.wasm2js_translation.specs.Words.{name_of}
use Rattle.wasm2js_translation.specs.Helpers.{two_arguments, arguments_after, put_body, put_function, zero_body, zero_function}
use Rattle.wasm2js_translation.specs.Modules.{segment_stmts, start_stmts, init_function, translated}
use Rattle.wasm2js_lang.proofs.Padded.{within_rows, where_none, is_constant}
use Rattle.wasm2js_laws_scopes.specs.Provided.{HasMemory}
use Rattle.wasm2js_laws_scopes.proofs.HeadNames.{memories_are_provided}
use Rattle.wasm2js_laws_acceptance.specs.FunctionsFunctions.{IsSource}
use Rattle.wasm2js_laws_acceptance.proofs.FunctionsHelperBodies.{memory_small}
use Rattle.wasm2js_laws_acceptance.proofs.ProvidedFound.{is_seen}
use Rattle.wasm2js_laws_acceptance.proofs.ProvidedPut.{long_among, put_found, zeros_found}

all_from_places : {A : Type 0} → (P : A → Type 0) (xs : List A) → ((i : ℕ) (x : A) → slice_get xs i ≡ Some x → P x) → AllByRecursion P xs
all_from_places P [] h = tt
all_from_places P (x ∷ xs) h = (h 0 x refl, all_from_places P xs (λ i y e. h (suc i) y e))

at_place : {A : Type 0} → (P : A → Type 0) (xs : List A) (i : ℕ) (x : A) → AllByRecursion P xs → slice_get xs i ≡ Some x → P x
at_place P [] i x h e = absurd (cc e)
at_place P (y ∷ xs) zero x h e = let same : y ≡ x = cc e in subst P same h.0
at_place P (y ∷ xs) (suc i) x h e = at_place P xs i x h.1 e

past_elements : (entries bytes n : ℕ) (es : List ElementSegment) (ds : List DataSegment) → segment_outside entries bytes n es ds ≡ None → (k : ℕ) × (outside_memory bytes k ds ≡ None)
past_elements entries bytes n [] ds h = (n, h)
past_elements entries bytes n (e ∷ es) ds h = past_elements entries bytes (n + 1) es ds (where_none _ n (segment_outside entries bytes (n + 1) es ds) h).1

past_element_offsets : (n : ℕ) (es : List ElementSegment) (ds : List DataSegment) → offset_from_import n es ds ≡ None → (k : ℕ) × (global_segment k ds ≡ None)
past_element_offsets n [] ds h = (n, h)
past_element_offsets n (e ∷ es) ds h = past_element_offsets (n + 1) es ds (where_none (is_global_offset e.offset) n (offset_from_import (n + 1) es ds) h).1

none_passes : (bytes n : ℕ) (ds : List DataSegment) → outside_memory bytes n ds ≡ None → AllByRecursion (λ d. passes (constant_offset d.offset) (length d.bytes) bytes ≡ false) ds
none_passes bytes n [] h = tt
none_passes bytes n (d ∷ ds) h = let w = where_none (passes (constant_offset d.offset) (length d.bytes) bytes) n (outside_memory bytes (n + 1) ds) h in (w.0, none_passes bytes (n + 1) ds w.1)

none_global : (n : ℕ) (ds : List DataSegment) → global_segment n ds ≡ None → AllByRecursion (λ d. is_global_offset d.offset ≡ false) ds
none_global n [] h = tt
none_global n (d ∷ ds) h = let w = where_none (is_global_offset d.offset) n (global_segment (n + 1) ds) h in (w.0, none_global (n + 1) ds w.1)

inside_room : (o : Option ℕ) (n size room : ℕ) → o ≡ Some n → passes o size room ≡ false → or_zero o + size ≤ room
inside_room None n size room e h = cc e
inside_room (Some k) n size room e h = at_most room (k + size) h
  where
    at_most : (a b : ℕ) → nat_lt a b ≡ false → b ≤ a
    at_most a b h = grind (arith, nat_tests)

-- the helpers that write words and zeros are there, and the view that they use
pub record CanPut (m : Module) (s : Scope) : Type 0 where
  pub function : named s (name_of data_words) ≡ a_function put_function
  pub views : named (scope_of m put_function) (name_of view_of_words) ≡ a_view Int32
  pub zeros : named s (name_of data_zeros) ≡ a_function zero_function
  pub zero_views : named (scope_of m zero_function) (name_of view_of_words) ≡ a_view Int32

-- it lies at a constant place within so many bytes, the scope has views, and it has that helper where the segment is long
pub record IsLying (m : Module) (s : Scope) (room : ℕ) (d : DataSegment) : Type 0 where
  pub constant : (n : ℕ) × (constant_offset d.offset ≡ Some n)
  pub memory : HasMemory s
  pub can : is_long d ≡ true → CanPut m s
  pub inside : or_zero (constant_offset d.offset) + length d.bytes ≤ room
  pub bytes : AllByRecursion (λ b. b < 256) d.bytes

module _ (w : WasmModule) (source : IsSource w) where
  abbrev pub init_scope : Scope
  init_scope = scope_of (translated w) (init_function w)

  memory_there : (d : DataSegment) → segment_rule w d ≡ None → has_memory w ≡ true
  memory_there d h = (and_parts (nat_eq d.memory 0) (has_memory w) (meets_none (is_memory_number w d.memory) _ _ h)).1

  puts : has_memory w ≡ true → has_long_segments w ≡ true → CanPut (translated w) init_scope
  puts has long = record {
    function = is_seen w (fixed init) [] [] (flat_map segment_stmts w.segments ++ start_stmts w.start) refl refl (fixed data_words) (a_function put_function) refl (put_found w has long);
    views = (memories_are_provided w (fixed data_words) (arguments_after 0 17) [] put_body refl refl has).words;
    zeros = is_seen w (fixed init) [] [] (flat_map segment_stmts w.segments ++ start_stmts w.start) refl refl (fixed data_zeros) (a_function zero_function) refl (zeros_found w has long);
    zero_views = (memories_are_provided w (fixed data_zeros) two_arguments [] zero_body refl refl has).words;
  }

  one_lies : (i : ℕ) (d : DataSegment) → slice_get w.segments i ≡ Some d → IsLying (translated w) init_scope (memory_bytes w) d
  one_lies i d e =
      let limits = within_rows w source.within in
      let rule : segment_rule w d ≡ None = sym (ap (λ o. at o (segment_rule w)) e) ∙ source.whole.is_valid sections.Data i (slice_get_within w.segments i d e) in
      let constant = past_element_offsets 0 w.elements w.segments limits.no_import in
      let global = at_place (λ (d : DataSegment). is_global_offset d.offset ≡ false) w.segments i d (none_global constant.0 w.segments constant.1) e in
      let n = is_constant w d.offset (meets_rest (is_memory_number w d.memory) _ _ rule) global in
      let outside = past_elements (table_length w) (memory_bytes w) 0 w.elements w.segments limits.all_inside in
      let fits = at_place (λ (d : DataSegment). passes (constant_offset d.offset) (length d.bytes) (memory_bytes w) ≡ false) w.segments i d (none_passes (memory_bytes w) outside.0 w.segments outside.1) e in
      record {
        constant = n;
        memory = memories_are_provided w (fixed init) [] [] (flat_map segment_stmts w.segments ++ start_stmts w.start) refl refl (memory_there d rule);
        can = λ long. puts (memory_there d rule) (long_among w.segments i d e long);
        inside = inside_room (constant_offset d.offset) n.0 (length d.bytes) (memory_bytes w) n.1 fits;
        bytes = recursion_from_All (λ b. b < 256) d.bytes
            (at_place (λ (d : DataSegment). All (λ b. b < 256) d.bytes) w.segments i d (recursion_from_All (λ (d : DataSegment). All (λ b. b < 256) d.bytes) w.segments source.bytes) e);
      }

  pub all_lie : AllByRecursion (IsLying (translated w) init_scope (memory_bytes w)) w.segments
  all_lie = all_from_places (IsLying (translated w) init_scope (memory_bytes w)) w.segments one_lies

  pub few_bytes : memory_bytes w ≤ 2 ^ 28
  few_bytes = memory_small w source
