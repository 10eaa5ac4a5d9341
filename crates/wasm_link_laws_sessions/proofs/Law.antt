-- Each reduction of a pair, and those of the module that it is linked to.
use Rattle.std.proofs.Common.{◌≡◌, ℕ, ◌+◌, ◌<◌, ◌≤◌, length, Option, Some, None, refl, arith}
use Rattle.wasm_lang_valid.specs.Runnable.{or_else}
use Rattle.wasm_lang.specs.Limits.{most_types, most_functions, most_globals, most_entries}
use Rattle.wasm_lang_valid.specs.ModuleRules.{function_types, global_types}
use Rattle.wasm_link_lang.specs.Pairs.{Pair, all_types}
use Rattle.wasm_link_lang.specs.Reductions.{entries}
use Rattle.wasm_link_lang.specs.Refusal.{sum_above}
use Rattle.wasm_link_code.specs.Code.{outside}
use Rattle.wasm_link_code.specs.Linked.{linked}
use Rattle.wasm_link_laws_modules.specs.Laws.{IsLinkable}
use Rattle.wasm_link_laws_modules.proofs.Accepted.{meets_no_row}
use Rattle.wasm_link_laws_modules.proofs.Sections.{above_none}
use Rattle.wasm_link_laws_sessions.specs.Globals.{in_order, global_count}
use Rattle.wasm_link_laws_sessions.specs.Laws.{GlobalsAreKept, CalleesAreAlike, ReductionsAreFollowed}
use Rattle.wasm_link_laws_sessions.proofs.Globals.{order_keeps}
use Rattle.wasm_link_laws_sessions.proofs.Ranges.{callees_are_alike}
use Rattle.wasm_link_laws_sessions.proofs.Configurations.{follows}

types_are : (w : Pair) → (linked w).types ≡ all_types w
unfolding linked
types_are w = refl

none_left : (o p : Option ℕ) → or_else o p ≡ None → (o ≡ None) × (p ≡ None)
none_left None p e = (refl, e)
none_left (Some x) p e = absurd (cc e)

few_entries : (w : Pair) → IsLinkable w → entries w.first + entries w.second < outside
few_entries w ok =
    let t = sum_above most_types (length w.first.types + length w.second.types) in
    let f = sum_above most_functions (length (function_types w.first) + length (function_types w.second) + 1) in
    let g = sum_above most_globals (length (global_types w.first) + length (global_types w.second)) in
    let e = sum_above most_entries (entries w.first + entries w.second) in
    let rows = meets_no_row w ok.not_refused in
    let a = none_left t (or_else f (or_else g e)) rows.sums in
    let b = none_left f (or_else g e) a.1 in
    let c = none_left g e b.1 in
    let few = at_most most_entries (entries w.first + entries w.second) c.1 in omega (arith, few)
  where
    at_most : (limit n : ℕ) → sum_above limit n ≡ None → n ≤ limit
    at_most limit n e = above_none limit n e

pub globals_are_kept : GlobalsAreKept
globals_are_kept w = order_keeps w

pub alike_callees : CalleesAreAlike
alike_callees w ok a is = callees_are_alike w ok a is

pub reductions_are_followed : ReductionsAreFollowed
reductions_are_followed w ok c locals room s c' alike holds =
    follows w (linked w) (global_count w) (in_order w) (order_keeps w) (callees_are_alike w ok) (types_are w) (few_entries w ok) c locals room s c' alike holds
