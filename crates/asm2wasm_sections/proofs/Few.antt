-- The numbers of an accepted module have 32 bits.
use Rattle.std.proofs.Common.{◌≡◌, suc, ◌+◌, ◌≤◌, Bool, true, false, List, [], ◌∷◌, ◌++◌, length, map, refl, arith}
use Rattle.std.specs.Prelude.{if◌then◌else◌}
use Rattle.std.proofs.lemmas.List.{length-append, length-map}
use Rattle.asm_lang.specs.Modules.{Table, Module}
use Rattle.asm_lang_valid.specs.Scope.{Signature, signature_of}
use Rattle.asm_lang_valid.specs.LimitRows.{foreign_calls}
use Rattle.asm_lang_valid.specs.Refusal.{function_number}
use Rattle.asm2wasm_laws_within.specs.Within.{members}
use Rattle.asm2wasm_laws_within.proofs.Within.{accepted_are_within}
use Rattle.asm2wasm_lang.specs.Tables.{members_of, entries_from}
use Rattle.asm2wasm_translation.specs.Numbers.{asked_signature, is_signature, is_known, each_once, signatures, place_of_type}
use Rattle.asm2wasm_sections.specs.Few.{AcceptedHaveFewTypes, AcceptedHaveFewFunctions, AcceptedHaveFewEntries, AcceptedHaveFewGlobals}

-- ---- types

place_small : (s : Signature) (ts : List Signature) → place_of_type s ts ≤ length ts
place_small s [] = omega arith
place_small s (t ∷ ts) = first (is_signature s t) s ts (place_small s ts)
  where
    first : (b : Bool) (s : Signature) (ts : List Signature) → place_of_type s ts ≤ length ts → (if b then 0 else suc (place_of_type s ts)) ≤ suc (length ts)
    first true s ts h = omega arith
    first false s ts h = omega arith

each_few : (seen ss : List Signature) → length (each_once seen ss) ≤ length seen + length ss
each_few seen [] = omega arith
each_few seen (s ∷ ss) = first (is_known s seen) (each_few seen ss) (each_few (seen ++ s ∷ []) ss)
  where
    first : (b : Bool) → length (each_once seen ss) ≤ length seen + length ss → length (each_once (seen ++ s ∷ []) ss) ≤ length (seen ++ s ∷ []) + length ss
        → length (if b then each_once seen ss else each_once (seen ++ s ∷ []) ss) ≤ length seen + suc (length ss)
    first true h k = omega arith
    first false h k = let e = length-append seen (s ∷ []) in omega arith

pub few_types : AcceptedHaveFewTypes
few_types m accepted s =
    let within = accepted_are_within m accepted in
    let p = place_small s (signatures m) in
    let q = each_few [] (map asked_signature (foreign_calls m) ++ map signature_of m.functions) in
    let e = length-append (map asked_signature (foreign_calls m)) (map signature_of m.functions) in
    let f = length-map (foreign_calls m) asked_signature in
    let g = length-map m.functions signature_of in
    let h = within.calls in
    let k = within.functions in
    omega arith

-- ---- functions, entries and globals

pub few_functions : AcceptedHaveFewFunctions
few_functions m accepted =
    let within = accepted_are_within m accepted in
    let h = within.calls in
    let k = within.functions in
    omega arith

as_many : (m : Module) (ts : List Table) → length (entries_from m ts) ≡ members ts
as_many m [] = refl
as_many m (t ∷ ts) =
    let e = length-append (members_of m t) (entries_from m ts) in
    let f = length-map t.members (function_number m.functions) in
    let g = as_many m ts in
    omega arith

pub few_entries : AcceptedHaveFewEntries
few_entries m accepted =
    let within = accepted_are_within m accepted in
    let h = within.entries in
    let e = as_many m m.tables in
    omega arith

pub few_globals : AcceptedHaveFewGlobals
few_globals m accepted =
    let within = accepted_are_within m accepted in
    let h = within.foreign in
    omega arith
