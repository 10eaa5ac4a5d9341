-- Calls of imported functions follow, and so do all calls.
use Rattle.std.proofs.Common.{zero, suc, ◌++◌, refl, arith}
use Rattle.std.specs.Prelude.{reverse}
use Rattle.std.proofs.lemmas.Slice.Eq.{bytes_eq-Decides}
use Rattle.session_lang.specs.Imports.{high_name}
use Rattle.wasm_lang_exec.specs.Reductions.{an_import}
use Rattle.wasm_laws_sound.proofs.Functions.{is_named, type_results}
use Rattle.wasm2js_laws_acceptance.proofs.ProvidedWithin.{rows_are_within}
use Rattle.wasm2js_laws_places.proofs.Paced.{stands_still}
use Rattle.wasm2js_laws_simulation.specs.CallsCalled.{seen_with, call_then}
use Rattle.wasm2js_laws_simulation.proofs.CallsCallees.{callee_typed}
use Rattle.wasm2js_laws_simulation.proofs.FramesDepths.{call_stands, functions_follow}
use Rattle.wasm2js_laws_simulation.specs.ImportsLaws.{ImportedFollow, AllFollow}
use Rattle.wasm2js_laws_simulation.proofs.ImportsNarrow.{high_is_narrow}
use Rattle.wasm2js_laws_simulation.proofs.ImportsWrapped.{wrapper_follows}

pub imported_follow : ImportedFollow
imported_follow f settled split k name t is zero most around code below locals next p w vs xs le few world passes resumes =
    stands_still f.by f.pace f.unpaid 1 p p (seen_with f around (call_then f k code) (reverse xs ++ below) locals p w) settled.some (omega (arith, le, few)) refl
    (call_stands f settled k around code (reverse xs ++ below) locals p w world)
imported_follow f settled split k name t is (suc d) most around code below locals next p w vs xs le few world passes resumes =
    let it = is_named f.home k t (callee_typed f.home k (an_import name t) is) in
    wrapper_follows f settled split k name t is (type_results f.home settled.source.whole.is_valid it.number t it.is_type)
    (λ high wide. high_is_narrow f.home name t ((bytes_eq-Decides name high_name).0 high) wide (rows_are_within f.home settled.source.within).wide k is) d most around code below locals next p w vs xs le few world
    passes resumes

pub all_follow : AllFollow
all_follow f settled split ready accesses home calls = functions_follow f settled ready accesses (imported_follow f settled split) home calls
