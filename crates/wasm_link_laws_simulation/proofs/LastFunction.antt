-- The start functions of both modules in the linked one, and the one function more that calls both.
use Rattle.std.proofs.Common.{◌≡◌, ℕ, zero, suc, ◌+◌, List, [], ◌∷◌, ◌++◌, length, map, Option, Some, None, refl, sym, ap, ◌∙◌, arith, length-append}
use Rattle.std.specs.Prelude.{slice_get, option_map}
use Rattle.std.proofs.lemmas.List.{length-map}
use Rattle.wasm_lang.specs.declared.types.ImportKind.{ImportKind}
use Rattle.wasm_lang.specs.declared.types.ImportKind.TheVariants as imports
use Rattle.wasm_lang.specs.Instructions as flat
use Rattle.wasm_lang.specs.Instructions.{end_mark}
use Rattle.wasm_lang.specs.Modules.{FunctionType, Imported, FunctionBody, WasmModule}
use Rattle.wasm_lang_valid.specs.ModuleRules.{function_of, imported_functions, type_of_function}
use Rattle.wasm_lang_valid.specs.Validity.{no_type}
use Rattle.wasm_lang_exec.specs.Code.{tree_of}
use Rattle.wasm_lang_exec.specs.Reductions.{a_function, if_function, imported_callee, imported_callees, own_callee, own_callees, callees, found, callee_at, params_of}
use Rattle.wasm_laws_sound.proofs.Functions.{functions_are_typed}
use Rattle.wasm_link_lang.specs.Pairs.{Pair, past_first, at_addresses, first_bindings, second_bindings}
use Rattle.wasm_link_lang.specs.Reductions.{entries}
use Rattle.wasm_link_code.specs.Numbers.{unbound_count, number}
use Rattle.wasm_link_code.specs.Linked.{last_function, second_start, start_bodies, moved_bodies, linked_functions, linked}
use Rattle.wasm_link_laws_modules.specs.Kept.{kept}
use Rattle.wasm_link_laws_modules.specs.Laws.{IsLinkable}
use Rattle.wasm_link_laws_modules.proofs.Accepted.{meets_no_row}
use Rattle.wasm_link_laws_modules.proofs.Places.{length-kept, get_past}
use Rattle.wasm_link_laws_modules.proofs.Chains.{first_many, second_many}
use Rattle.wasm_link_laws_modules.proofs.Types.{typed_first, typed_second}
use Rattle.wasm_link_laws_modules.proofs.Linked.{functions_are}
use Rattle.wasm_link_laws_modules.proofs.Numbered.{number_typed}
use Rattle.wasm_link_laws_modules.proofs.BodiesValid.{many_moved}
use Rattle.wasm_link_laws_modules.proofs.Sections.{linked_functions_are}
use Rattle.wasm_link_laws_modules.proofs.Valid.{start_typed, linked_bodies_are, many_addressed, more_type, more_own}
use Rattle.wasm_link_laws_modules.proofs.Law.{whole}
use Rattle.wasm_link_laws_sessions.specs.Alike.{IsFunction}
use Rattle.wasm_link_laws_sessions.specs.Globals.{in_order, global_count}
use Rattle.wasm_link_laws_sessions.proofs.Law.{reductions_are_followed}
use Rattle.wasm_link_laws_simulation.proofs.Starts.{both_calls, AreStarts}

-- ---- places of callees

many_imported : (m : WasmModule) (is : List Imported) → length (imported_callees m is) ≡ length (imported_functions is)
many_imported m [] = refl
many_imported m (i ∷ is) = by i.kind (many_imported m is)
  where
    by : (k : ImportKind) → length (imported_callees m is) ≡ length (imported_functions is)
        → length (if_function k (λ t. imported_callee m i t ∷ imported_callees m is) (imported_callees m is)) ≡ length (function_of k ++ imported_functions is)
    by (imports.Func t) e = ap suc e
    by (imports.Table l) e = e
    by (imports.Memory l) e = e
    by (imports.Global g) e = e

at_own : (m : WasmModule) (ts : List ℕ) (bs : List FunctionBody) (i n : ℕ) (b : FunctionBody) → slice_get ts i ≡ Some n → slice_get bs i ≡ Some b
    → slice_get (own_callees m ts bs) i ≡ Some (own_callee (slice_get m.types n) b (tree_of b.code))
at_own m [] bs i n b h g = absurd (cc h)
at_own m (t ∷ ts) [] i n b h g = absurd (cc g)
at_own m (t ∷ ts) (c ∷ bs) zero n b h g =
    let e : t ≡ n = cc h in
    let f : c ≡ b = cc g in
    ap (λ t. Some (own_callee (slice_get m.types t) c (tree_of c.code))) e ∙ ap (λ (c : FunctionBody). Some (own_callee (slice_get m.types n) c (tree_of c.code))) f
at_own m (t ∷ ts) (c ∷ bs) (suc i) n b h g = at_own m ts bs i n b h g

module _ (w : Pair) (ok : IsLinkable w) where
  abbrev past : ℕ → ℕ
  past f = (past_first w).functions + f

  abbrev unbound : ℕ
  unbound = unbound_count (first_bindings w) + unbound_count (second_bindings w)

  abbrev own : ℕ
  own = length w.first.functions + length w.second.functions

  -- ---- the one function more

  imports_are : length (imported_callees (linked w) (linked w).imports) ≡ unbound
  imports_are =
      let types : ℕ → ℕ = λ t. length w.first.types + t in
      let k1 = kept (first_bindings w) (imported_functions w.first.imports) in
      let k2 = kept (second_bindings w) (map types (imported_functions w.second.imports)) in
      let a = many_imported (linked w) (linked w).imports in
      let b = ap length (functions_are w) in
      let c = length-append (imported_functions (linked w).imports) (linked w).functions in
      let d = ap length (linked_functions_are w) in
      let e = length-append (k1 ++ k2) (linked_functions w) in
      let f = length-append k1 k2 in
      let g = length-kept (first_bindings w) (imported_functions w.first.imports) (first_many w) in
      let h = length-kept (second_bindings w) (map types (imported_functions w.second.imports)) (second_many w ∙ sym (length-map (imported_functions w.second.imports) types)) in
      omega (arith, a, b, c, d, e, f, g, h)

  abbrev both_body : ℕ → ℕ → FunctionBody
  both_body a b = record { locals = []; code = flat.call (number w a) ∷ flat.call (number w b) ∷ end_mark ∷ [] }

  body_at : (a b : ℕ) → start_bodies w w.first.start (second_start w) ≡ both_body a b ∷ [] → slice_get (linked w).bodies own ≡ Some (both_body a b)
  body_at a b e =
      let ones = moved_bodies w w.first (entries w.second) 0 w.first.bodies in
      let twos = moved_bodies w w.second (entries w.first) 0 (at_addresses (past_first w) w.second).bodies in
      let m1 = many_moved w w.first (entries w.second) 0 w.first.bodies in
      let m2 = ok.first.bodies_match in
      let m3 = many_moved w w.second (entries w.first) 0 (at_addresses (past_first w) w.second).bodies in
      let m4 = many_addressed w in
      let m5 = ok.second.bodies_match in
      let z : length w.second.functions ≡ length w.second.functions + 0 = omega arith in
      ap (λ bs. slice_get bs own) (linked_bodies_are w)
      ∙ get_past ones (twos ++ start_bodies w w.first.start (second_start w)) (length w.first.functions) (length w.second.functions) (omega (arith, m1, m2))
      ∙ ap (slice_get (twos ++ start_bodies w w.first.start (second_start w))) z
      ∙ get_past twos (start_bodies w w.first.start (second_start w)) (length w.second.functions) 0 (omega (arith, m3, m4, m5))
      ∙ ap (λ bs. slice_get bs 0) e

  calls_both : (a b : ℕ) → w.first.start ≡ Some a → w.second.start ≡ Some b → callee_at (linked w) (last_function w) ≡ Some (a_function no_type [] (both_calls (number w a) (number w (past b))))
  calls_both a b e f =
      let rows = meets_no_row w ok.not_refused in
      let n = more_type w rows ok.first ok.second a b e f in
      let own_at = more_own w rows ok.first ok.second n.0 n.1 in
      let bodies : start_bodies w w.first.start (second_start w) ≡ both_body a (past b) ∷ [] =
      ap (λ o. start_bodies w o (second_start w)) e ∙ ap (λ o. start_bodies w (Some a) (option_map past o)) f in
      let same : last_function w ≡ unbound + own = omega arith in
      ap (λ i. found (slice_get (callees (linked w)) i)) same
      ∙ ap found (get_past (imported_callees (linked w) (linked w).imports) (own_callees (linked w) (linked w).functions (linked w).bodies) unbound own imports_are
      ∙ at_own (linked w) (linked w).functions (linked w).bodies own n.0 (both_body a (past b)) own_at (body_at a (past b) bodies))
      ∙ ap (λ o. own_callee o (both_body a (past b)) (tree_of (both_body a (past b)).code)) n.2

  -- ---- the starts

  first_start : (a : ℕ) → w.first.start ≡ Some a → IsFunction w a
  first_start a e = (no_type, typed_first w a no_type (start_typed w.first ok.first a e))

  other_start : (b : ℕ) → w.second.start ≡ Some b → IsFunction w (past b)
  other_start b e = (no_type, typed_second w b no_type (start_typed w.second ok.second b e))

  no_params : (f : ℕ) → type_of_function (linked w) f ≡ Some no_type → params_of (callee_at (linked w) f) ≡ 0
  no_params f e =
      let it = (functions_are_typed (linked w) (whole w ok)).are_there f no_type e in
      ap params_of it.1 ∙ ap (λ (t : FunctionType). length t.params) it.2

  abbrev AreHere : Option ℕ → Option ℕ → Type 0
  AreHere p q = AreStarts w (linked w) (global_count w) (in_order w) (reductions_are_followed w ok) p q

  pub are_starts : AreHere w.first.start (second_start w)
  are_starts = by w.first.start w.second.start refl refl
    where
      by : (p q : Option ℕ) → w.first.start ≡ p → w.second.start ≡ q → AreHere p (option_map past q)
      by None None e f = tt
      by (Some a) None e f = first_start a e
      by None (Some b) e f = other_start b f
      by (Some a) (Some b) e f = (
        first_start a e,
        other_start b f,
        calls_both a b e f,
        no_params (number w a) (number_typed w (meets_no_row w ok.not_refused) a no_type (typed_first w a no_type (start_typed w.first ok.first a e))),
        no_params (number w (past b)) (number_typed w (meets_no_row w ok.not_refused) (past b) no_type (typed_second w b no_type (start_typed w.second ok.second b f))),
      )
