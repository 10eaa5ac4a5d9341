-- Each body of the linked module is valid.
use Rattle.std.proofs.Common.{◌≡◌, ◌⊎◌, ℕ, zero, suc, ◌+◌, ◌<◌, true, List, [], ◌∷◌, ◌++◌, length, map, Option, Some, refl, sym, ap, ◌∙◌, subst, arith, Ok}
use Rattle.std.specs.Prelude.{slice_get, option_map}
use Rattle.std.proofs.lemmas.Option.{slice_get_within, slice_get-map}
use Rattle.wasm_lang.specs.declared.types.ValType.{ValType}
use Rattle.wasm_lang.specs.declared.types.ValType.TheVariants.{I32}
use Rattle.wasm_lang.specs.Instructions.{Instruction, call, end_mark}
use Rattle.wasm_lang.specs.Modules.{FunctionType, FunctionBody, WasmModule}
use Rattle.wasm_lang_valid.specs.declared.rule.Rule.TheVariants.{NoFunction}
use Rattle.wasm_lang_valid.specs.Typing.{Context, result_of, listed, IsValid, Typed, type_of, found, call_shape, fixed, Fixed, typed_plain, typed_empty}
use Rattle.wasm_lang_valid.specs.ModuleRules.{type_of_function}
use Rattle.wasm_lang_valid.specs.Validity.{own_type, no_type, body_context}
use Rattle.wasm_laws_sound.specs.Laws.{IsWhole}
use Rattle.wasm_link_lang.specs.Pairs.{Pair, Bases, past_first, addressed, at_addresses}
use Rattle.wasm_link_lang.specs.Reductions.{entries}
use Rattle.wasm_link_lang.specs.Refusal.{has_indirect, locals_of}
use Rattle.wasm_link_code.specs.Laws.{no_bases}
use Rattle.wasm_link_code.specs.Code.{moved_code, scratch}
use Rattle.wasm_link_code.specs.Linked.{moved_bodies, start_types, linked}
use Rattle.wasm_link_code.proofs.CodeAddresses.{first_is_addressed, indirect_stays}
use Rattle.wasm_link_laws_modules.proofs.Accepted.{MeetsNoRow}
use Rattle.wasm_link_laws_modules.proofs.Places.{get_there, get_second, get_first}
use Rattle.wasm_link_laws_modules.proofs.Types.{is_mapped}
use Rattle.wasm_link_laws_modules.proofs.Bodies.{Carries, HasScratch, in_first, moved_all, moved_joins, typed_moves, finds}
use Rattle.wasm_link_laws_modules.proofs.Facts.{lt_true, functions_kept, bodies_kept}
use Rattle.wasm_link_laws_modules.proofs.Contexts.{own_is, scratch_there, type_context, first_carries, second_carries}

-- ---- bodies by their places

pub moved_at : (w : Pair) (m : WasmModule) (other n : ℕ) (bs : List FunctionBody) (i : ℕ) (c : FunctionBody) → slice_get (moved_bodies w m other n bs) i ≡ Some c
    → (b : FunctionBody) × (slice_get bs i ≡ Some b) × (c ≡ record { locals = b.locals ++ scratch other b.code; code = moved_code w (locals_of m (n + i) b) b.code })
moved_at w m other n [] i c h = absurd (cc h)
moved_at w m other n (b ∷ bs) zero c h =
    let same : n ≡ n + 0 = omega arith in
    let is : record { locals = b.locals ++ scratch other b.code; code = moved_code w (locals_of m n b) b.code } ≡ c = cc h in
    (b, refl, sym is ∙ ap (λ n. record { locals = b.locals ++ scratch other b.code; code = moved_code w (locals_of m n b) b.code }) same)
moved_at w m other n (b ∷ bs) (suc i) c h =
    let it = moved_at w m other (suc n) bs i c h in
    let same : suc n + i ≡ n + suc i = omega arith in
    (it.0, it.1, it.2 ∙ ap (λ n. record { locals = it.0.locals ++ scratch other it.0.code; code = moved_code w (locals_of m n it.0) it.0.code }) same)

pub many_moved : (w : Pair) (m : WasmModule) (other n : ℕ) (bs : List FunctionBody) → length (moved_bodies w m other n bs) ≡ length bs
many_moved w m other n [] = refl
many_moved w m other n (b ∷ bs) = ap suc (many_moved w m other (suc n) bs)

-- ---- a body

body_valid : (w : Pair) (bs : Bases) (k other : ℕ) (base there : Context) (code moved_is : List Instruction)
    → ((labels : List (Option ValType)) → Carries w bs k other (record base { labels = labels }) (record there { labels = labels }))
    → base.returns ≡ there.returns → (has_indirect code ≡ true → HasScratch other k there) → moved_is ≡ moved_all w bs k other code
    → IsValid base code → IsValid there moved_is
body_valid w bs k other base there code moved_is carries same scratch is valid =
    let inner = valid.0 in
    let typed = valid.2 in
    let guarded : has_indirect inner ≡ true → HasScratch other k there =
    λ h. scratch (ap has_indirect valid.1 ∙ in_first w bs k other inner (end_mark ∷ []) h) in
    let moves = typed_moves w bs k other typed (record there { labels = base.returns ∷ [] }) (carries (base.returns ∷ [])) guarded in (
      moved_all w bs k other inner,
      is ∙ ap (moved_all w bs k other) valid.1 ∙ moved_joins w bs k other inner (end_mark ∷ []),
      subst (λ r. Typed (record there { labels = r ∷ [] }) (moved_all w bs k other inner) [] (listed r)) same moves,
    )

-- ---- the type of a function by its place among the own ones

pub record OwnType (m : WasmModule) (i : ℕ) : Type 0 where
  pub number : ℕ
  pub type : FunctionType
  pub numbered : slice_get m.functions i ≡ Some number
  pub is_type : slice_get m.types number ≡ Some type

pub own_typed : (m : WasmModule) → IsWhole m → (i : ℕ) → i < length m.functions → OwnType m i
own_typed m whole i within =
    let f = get_there m.functions i within in
    let n = lt_true f.0 (length m.types) (functions_kept m whole.is_valid i f.0 f.1) in
    let t = get_there m.types f.0 n in
    record { number = f.0; type = t.0; numbered = f.1; is_type = t.1 }

module _ (w : Pair) (rows : MeetsNoRow w) (first : IsWhole w.first) (second : IsWhole w.second) where
  abbrev IsBodyAt : ℕ → FunctionBody → Type 0
  IsBodyAt i b = IsValid (body_context (linked w) i b) b.code

  own_first : (i n : ℕ) (t : FunctionType) → slice_get w.first.functions i ≡ Some n → slice_get w.first.types n ≡ Some t → own_type (linked w) i ≡ t
  unfolding linked
  own_first i n t e f =
      own_is (linked w) i n t (get_first w.first.functions (map (λ t. length w.first.types + t) w.second.functions ++ start_types w w.first.start w.second.start) i n e)
      (get_first w.first.types w.second.types n t f)

  own_second : (i n : ℕ) (t : FunctionType) → slice_get w.second.functions i ≡ Some n → slice_get w.second.types n ≡ Some t → own_type (linked w) (length w.first.functions + i) ≡ t
  unfolding linked
  own_second i n t e f =
      let past : ℕ → ℕ = λ t. length w.first.types + t in
      own_is (linked w) (length w.first.functions + i) (past n) t
      (get_second w.first.functions (map past w.second.functions ++ start_types w w.first.start w.second.start) i
      ∙ get_first (map past w.second.functions) (start_types w w.first.start w.second.start) i (past n) (slice_get-map past w.second.functions i ∙ ap (option_map past) e))
      (get_second w.first.types w.second.types n ∙ f)

  scratch_at : (t u : FunctionType) (locals : List ValType) (other k : ℕ) (code : List Instruction) → t ≡ u → k ≡ length t.params + length locals → has_indirect code ≡ true
      → (other ≡ 0) ⊎ (slice_get (u.params ++ (locals ++ scratch other code)) k ≡ Some I32)
  scratch_at t u locals other k code e f h =
      subst (λ j. (other ≡ 0) ⊎ (slice_get (u.params ++ (locals ++ scratch other code)) j ≡ Some I32)) (ap (λ (t : FunctionType). length t.params + length locals) (sym e) ∙ sym f)
      (scratch_there w rows u.params locals other code h)

  pub first_body : (i : ℕ) (c : FunctionBody) → slice_get (moved_bodies w w.first (entries w.second) 0 w.first.bodies) i ≡ Some c → IsBodyAt i c
  first_body i c h =
      let at = moved_at w w.first (entries w.second) 0 w.first.bodies i c h in
      let b = at.0 in
      let within : i < length w.first.functions = let e = slice_get_within w.first.bodies i b at.1 in let f = first.bodies_match in omega (arith, e, f) in
      let own = own_typed w.first first i within in
      let here = own_is w.first i own.number own.type own.numbered own.is_type in
      let there = own_first i own.number own.type own.numbered own.is_type in
      let k = locals_of w.first (0 + i) b in
      let code = moved_code w k b.code in
      let same : 0 + i ≡ i = omega arith in
      let more = scratch (entries w.second) b.code in
      subst (IsBodyAt i) (sym at.2)
      (body_valid w no_bases k (entries w.second) (body_context w.first i b) (body_context (linked w) i (record { locals = b.locals ++ more; code = code })) b.code code
      (λ labels. first_carries w rows i i b more code own.type labels k here there)
      (ap result_of (here ∙ sym there))
      (scratch_at (own_type w.first i) (own_type (linked w) i) b.locals (entries w.second) k b.code (here ∙ sym there) (ap (λ j. length (own_type w.first j).params + length b.locals) same))
      (ap (moved_code w k) (sym (first_is_addressed b.code)))
      (bodies_kept w.first first.is_valid i b at.1))

  pub second_body : (i : ℕ) (c : FunctionBody) → slice_get (moved_bodies w w.second (entries w.first) 0 (at_addresses (past_first w) w.second).bodies) i ≡ Some c → IsBodyAt (length w.first.functions + i) c
  second_body i c h =
      let at = moved_at w w.second (entries w.first) 0 (at_addresses (past_first w) w.second).bodies i c h in
      let from = is_mapped (λ (f : FunctionBody). record f { code = map (addressed (past_first w)) f.code }) (slice_get w.second.bodies i) at.0
      (sym (slice_get-map (λ (f : FunctionBody). record f { code = map (addressed (past_first w)) f.code }) w.second.bodies i) ∙ at.1) in
      let b = from.0 in
      let within : i < length w.second.functions = let e = slice_get_within w.second.bodies i b from.1 in let f = second.bodies_match in omega (arith, e, f) in
      let own = own_typed w.second second i within in
      let here = own_is w.second i own.number own.type own.numbered own.is_type in
      let there = own_second i own.number own.type own.numbered own.is_type in
      let k = locals_of w.second (0 + i) b in
      let inner = map (addressed (past_first w)) b.code in
      let code = moved_code w k inner in
      let same : 0 + i ≡ i = omega arith in
      let more = scratch (entries w.first) inner in
      let is : c ≡ record { locals = b.locals ++ more; code = code } =
      at.2 ∙ ap (λ (f : FunctionBody). record { locals = f.locals ++ scratch (entries w.first) f.code; code = moved_code w (locals_of w.second (0 + i) f) f.code }) (sym from.2) in
      subst (IsBodyAt (length w.first.functions + i)) (sym is)
      (body_valid w (past_first w) k (entries w.first) (body_context w.second i b) (body_context (linked w) (length w.first.functions + i) (record { locals = b.locals ++ more; code = code })) b.code code
      (λ labels. second_carries w rows i (length w.first.functions + i) b more code own.type labels k here there)
      (ap result_of (here ∙ sym there))
      (λ e. scratch_at (own_type w.second i) (own_type (linked w) (length w.first.functions + i)) b.locals (entries w.first) k inner (here ∙ sym there)
      (ap (λ j. length (own_type w.second j).params + length b.locals) same) (indirect_stays (past_first w) b.code ∙ e))
      refl
      (bodies_kept w.second second.is_valid i b from.1))

  -- ---- the one more, which calls both starts

  pub starts_body : (j x y : ℕ) → own_type (linked w) j ≡ no_type → type_of_function (linked w) x ≡ Some no_type → type_of_function (linked w) y ≡ Some no_type
      → IsBodyAt j (record { locals = []; code = call x ∷ call y ∷ end_mark ∷ [] })
  starts_body j x y own first second =
      let there : FunctionBody = record { locals = []; code = call x ∷ call y ∷ end_mark ∷ [] } in
      let base = body_context (linked w) j there in
      let c : Context = record base { labels = base.returns ∷ [] } in
      let calls : (n : ℕ) → type_of_function (linked w) n ≡ Some no_type → found NoFunction (type_of c n) (call_shape []) ≡ Ok (Fixed [] []) =
      λ n e. finds NoFunction (type_of c n) (call_shape []) no_type (Fixed [] []) (type_context (linked w) j n there (base.returns ∷ []) no_type e) refl in
      let body : Typed c (call x ∷ call y ∷ []) [] [] = typed_plain [] (calls x first) fixed refl (typed_plain [] (calls y second) fixed refl typed_empty) in
      (call x ∷ call y ∷ [], refl, subst (λ (t : FunctionType). Typed c (call x ∷ call y ∷ []) [] (listed (result_of t))) (sym own) body)
