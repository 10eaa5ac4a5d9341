-- The actions of plain instructions are sound, instruction by instruction.
use Rattle.std.proofs.Common.{◌≡◌, ℕ, ◌+◌, ◌/◌, ◌^◌, ◌<◌, ◌≤◌, Bool, true, false, List, [], ◌∷◌, ◌++◌, length, drop, Option, Some, None, Result, Ok, refl, sym, ap, subst, arith}
use Rattle.std.specs.Prelude.{slice_get, ◌==◌}
use Rattle.std.proofs.lemmas.Bool.Decides.{nat_tests}
use Rattle.session_lang.specs.Imports.{low_word, high_word}
use Rattle.wasm_lang.specs.declared.types.ValType.{ValType}
use Rattle.wasm_lang.specs.declared.types.ValType.TheVariants.{I32, I64}
use Rattle.wasm_lang.specs.declared.types.GlobalType.{GlobalType}
use Rattle.wasm_lang.specs.declared.types.MemOp.{MemOp}
use Rattle.wasm_lang.specs.Instructions.{Plain, nop, drop_operand, select, local_get, local_set, local_tee, global_get, global_set, load, store, memory_size, memory_copy, memory_fill, const32, const64, eqz32, eqz64, rel32, rel64, un32, un64, bin32, bin64, wrap, extend_s, extend_u, sign_extend}
use Rattle.wasm_lang_valid.specs.declared.rule.Rule.{Rule}
use Rattle.wasm_lang_valid.specs.declared.rule.Rule.TheVariants.{NoMemory, NoGlobal, NoLocal}
use Rattle.wasm_lang_valid.specs.Typing.{Context, Shape, Fixed, TwoAlike, Acts, fixed, two_alike, found, unless, kind_of, plain_shape}
use Rattle.asm_lang_valid.specs.Typing.{Scope}
use Rattle.wasm2js_translation.specs.Names as names
use Rattle.wasm2js_laws_terms.specs.Sound.{IsInt, AllSound, AreSoundSimple, AreSoundActions}
use Rattle.wasm2js_laws_scopes.specs.Provided.{signature, AreInts, HasRoom, IsNamed, Called, AsksAmong, Provides, WordsHelp, MemoryHelps}
use Rattle.wasm2js_translation.specs.Pairs.{names_of, local_pair, operand_pair, global_pair}
use Rattle.wasm2js_translation.specs.Actions.{under, low, three, selected, kind_in, narrow_unary, narrow_binary, sign_extended, actions_amid}
use Rattle.wasm2js_translation.specs.Wide.{wide_binary_at, wide_unary}
use Rattle.wasm2js_translation.specs.Delays.{Delayed, number_at}
use Rattle.wasm2js_translation.specs.Rooms.{here, local_named}
use Rattle.wasm2js_laws_typed.specs.Laws.{IsFormed, PlainIsSound}
use Rattle.wasm2js_laws_typed.proofs.Facts.{plain_literal, signed_literal, low_fits, high_fits, first_low, second_low, top_of_two, third_low, middle_of_three, top_of_three, first_high, second_high, top_high_of_two, first_words}
use Rattle.wasm2js_laws_typed.proofs.SoundCode.{all_simple, moved_if_sound, selected_sound, narrow_binary_sound, narrow_unary_sound, narrow_relation_sound, wide_unary_sound, wide_relation_sound, narrow_extended_sound, wide_extended_sound}
use Rattle.wasm2js_laws_typed.proofs.SoundTurned.{wide_binary_at_sound}
use Rattle.wasm2js_laws_typed.proofs.SoundAccess.{loads_access, stores_access, loads_eight, stores_eight, load_sound, store_sound}

-- ---- what a shape takes and gives

same_takes : {ts us takes gives : List ValType} → Acts (Fixed ts us) takes gives → (takes ≡ ts) × (gives ≡ us)
same_takes fixed = (refl, refl)

pub of_fixed : (P : List ValType → List ValType → Type 0) (ts us takes gives : List ValType) (form : Shape)
    → ◌≡◌ {A = Result Shape Rule} (Ok (Fixed ts us)) (Ok form) → Acts form takes gives → P ts us → P takes gives
of_fixed P ts us takes gives form is acts h =
    let e : Fixed ts us ≡ form = cc is in
    let same = same_takes (subst (λ f. Acts f takes gives) (sym e) acts) in
    subst (λ gs. P takes gs) (sym same.1) (subst (λ ws. P ws us) (sym same.0) h)

two_alike_takes : (P : List ValType → List ValType → Type 0) {takes gives : List ValType} → Acts TwoAlike takes gives → ((t : ValType) → P (I32 ∷ t ∷ t ∷ []) (t ∷ [])) → P takes gives
two_alike_takes P (two_alike {t = t}) h = h t

of_two_alike : (P : List ValType → List ValType → Type 0) (takes gives : List ValType) (form : Shape)
    → ◌≡◌ {A = Result Shape Rule} (Ok TwoAlike) (Ok form) → Acts form takes gives → ((t : ValType) → P (I32 ∷ t ∷ t ∷ []) (t ∷ [])) → P takes gives
of_two_alike P takes gives form is acts h =
    let e : TwoAlike ≡ form = cc is in
    two_alike_takes P (subst (λ f. Acts f takes gives) (sym e) acts) h

-- ---- the next operand

drop_none : (ts : List ValType) → drop 0 ts ≡ ts
drop_none [] = refl
drop_none (t ∷ ts) = refl

pub under_none : (b : ℕ) (ts : List ValType) → under 0 b ts ≡ b + length ts
under_none b ts = ap (λ ts. b + length ts) (drop_none ts)

is_self : (n : ℕ) → (n == n) ≡ true
is_self n = grind (arith, nat_tests)

named_self : (x : ℕ) → IsNamed x (x ∷ [])
named_self x = rw (is_self x) refl

module _ (s : Scope) (c : Context) (is_called : Called) (bytes cells : ℕ) (given : Provides s c is_called bytes cells) (b : ℕ) (below : List ValType) (ds : List Delayed) where
  next_words : (t : ValType) → HasRoom s c (here b (t ∷ below) []) → AreInts s (names_of t (operand_pair (under 0 b below)))
  next_words t h = subst (λ d. AreInts s (names_of t (operand_pair d))) (sym (under_none b below)) (first_words s c b t below [] h)

  next_low : (t : ValType) → HasRoom s c (here b (t ∷ below) []) → IsInt s (low (under 0 b below))
  next_low t h = subst (λ d. IsInt s (low d)) (sym (under_none b below)) (first_low s c b t below [] h)

  abbrev Goal : Plain → List ValType → List ValType → Type 0
  Goal p takes gives = HasRoom s c (here b (takes ++ below) (local_named p)) → HasRoom s c (here b (gives ++ below) []) → AreSoundActions s (actions_amid bytes c ds p b (takes ++ below))

  module _ (form : Shape) (takes gives : List ValType) (acts : Acts form takes gives) where
    -- ---- helpers

    words_help : (p : Plain) → AsksAmong is_called.helpers p → WordsHelp s p
    words_help p asked = λ f form h k. given.helpers f form h (asked f k)

    memory_helps : (p : Plain) → AsksAmong is_called.helpers p → c.memory ≡ true → MemoryHelps s p
    memory_helps p asked e = λ f form h k. given.memory_helpers e f form h (asked f k)

    -- ---- locals and globals

    local_get_sound : (x : ℕ) (o : Option ValType) → slice_get c.locals x ≡ o → found NoLocal o (λ t. Fixed [] (t ∷ [])) ≡ Ok form → Goal (local_get x) takes gives
    local_get_sound x None e is = absurd (cc is)
    local_get_sound x (Some t) e is = of_fixed (Goal (local_get x)) [] (t ∷ []) takes gives form is acts
        (λ before after. moved_if_sound s (slice_get c.locals x) t (local_pair x) (operand_pair (under 0 b below)) e (before.locals x t (named_self x) e) (next_words t after))

    local_set_sound : (x : ℕ) (o : Option ValType) → slice_get c.locals x ≡ o → found NoLocal o (λ t. Fixed (t ∷ []) []) ≡ Ok form → Goal (local_set x) takes gives
    local_set_sound x None e is = absurd (cc is)
    local_set_sound x (Some t) e is = of_fixed (Goal (local_set x)) (t ∷ []) [] takes gives form is acts
        (λ before after. moved_if_sound s (slice_get c.locals x) t (operand_pair (b + length below)) (local_pair x) e (first_words s c b t below _ before) (before.locals x t (named_self x) e))

    local_tee_sound : (x : ℕ) (o : Option ValType) → slice_get c.locals x ≡ o → found NoLocal o (λ t. Fixed (t ∷ []) (t ∷ [])) ≡ Ok form → Goal (local_tee x) takes gives
    local_tee_sound x None e is = absurd (cc is)
    local_tee_sound x (Some t) e is = of_fixed (Goal (local_tee x)) (t ∷ []) (t ∷ []) takes gives form is acts
        (λ before after. moved_if_sound s (slice_get c.locals x) t (operand_pair (b + length below)) (local_pair x) e (first_words s c b t below _ before) (before.locals x t (named_self x) e))

    global_get_sound : (x : ℕ) (o : Option GlobalType) → slice_get c.globals x ≡ o → found NoGlobal o (λ (g : GlobalType). Fixed [] (g.kind ∷ [])) ≡ Ok form → Goal (global_get x) takes gives
    global_get_sound x None e is = absurd (cc is)
    global_get_sound x (Some g) e is = of_fixed (Goal (global_get x)) [] (g.kind ∷ []) takes gives form is acts
        (λ before after. moved_if_sound s (kind_in (slice_get c.globals x)) g.kind (global_pair x) (operand_pair (under 0 b below)) (ap kind_in e) (given.globals x g e) (next_words g.kind after))

    global_set_sound : (x : ℕ) (o : Option GlobalType) → slice_get c.globals x ≡ o → found NoGlobal o (λ (g : GlobalType). Fixed (g.kind ∷ []) []) ≡ Ok form → Goal (global_set x) takes gives
    global_set_sound x None e is = absurd (cc is)
    global_set_sound x (Some g) e is = of_fixed (Goal (global_set x)) (g.kind ∷ []) [] takes gives form is acts
        (λ before after. moved_if_sound s (kind_in (slice_get c.globals x)) g.kind (operand_pair (b + length below)) (global_pair x) (ap kind_in e) (first_words s c b g.kind below _ before) (given.globals x g e))

    -- ---- memory

    high_if_wide : (wide : Bool) → HasRoom s c (here b (kind_of wide ∷ below) []) → wide ≡ true → IsInt s (operand_pair (b + length below)).high
    high_if_wide true h e = first_high s c b below [] h
    high_if_wide false h e = absurd (cc e)

    value_if_wide : (wide : Bool) (xs : List ℕ) → HasRoom s c (here b (kind_of wide ∷ I32 ∷ below) xs) → wide ≡ true → IsInt s (operand_pair (b + length below + 1)).high
    value_if_wide true xs h e = top_high_of_two s c b I32 below xs h
    value_if_wide false xs h e = absurd (cc e)

    load_is_sound : (op : MemOp) (align offset : ℕ) (m : Bool) → c.memory ≡ m → IsFormed (load op align offset) → AsksAmong is_called.helpers (load op align offset) → unless m NoMemory (Fixed (I32 ∷ []) (kind_of op.wide ∷ [])) ≡ Ok form → Goal (load op align offset) takes gives
    load_is_sound op align offset false e formed asked is = absurd (cc is)
    load_is_sound op align offset true e formed asked is = of_fixed (Goal (load op align offset)) (I32 ∷ []) (kind_of op.wide ∷ []) takes gives form is acts
        (λ before after. load_sound s given.fixed (given.memory e) bytes given.few_bytes op (loads_access op.wide op.signed op.size formed) (loads_eight op.wide op.signed op.size formed) offset (operand_pair (b + length below)) (first_low s c b I32 below _ before) (high_if_wide op.wide after)
        (memory_helps (load op align offset) asked e names.load_32 (signature 1 true) refl) (memory_helps (load op align offset) asked e names.load_64 (signature 1 true) refl))

    store_is_sound : (op : MemOp) (align offset : ℕ) (m : Bool) → c.memory ≡ m → IsFormed (store op align offset) → AsksAmong is_called.helpers (store op align offset) → unless m NoMemory (Fixed (kind_of op.wide ∷ I32 ∷ []) []) ≡ Ok form → Goal (store op align offset) takes gives
    store_is_sound op align offset false e formed asked is = absurd (cc is)
    store_is_sound op align offset true e formed asked is = of_fixed (Goal (store op align offset)) (kind_of op.wide ∷ I32 ∷ []) [] takes gives form is acts
        (λ before after. store_sound s given.fixed (given.memory e) bytes given.few_bytes op (stores_access op.wide op.signed op.size formed) (stores_eight op.wide op.signed op.size formed) offset (low (b + length below)) (operand_pair (b + length below + 1))
        (second_low s c b (kind_of op.wide) I32 below _ before) (top_of_two s c b (kind_of op.wide) I32 below _ before) (value_if_wide op.wide _ before)
        (memory_helps (store op align offset) asked e names.store_32 (signature 2 false) refl) (memory_helps (store op align offset) asked e names.store_64 (signature 3 false) refl))

    page_count : bytes ≤ 2 ^ 28 → bytes / 65536 < 2 ^ 32
    page_count h = omega (arith, h)

    size_is_sound : (m : Bool) → c.memory ≡ m → unless m NoMemory (Fixed [] (I32 ∷ [])) ≡ Ok form → Goal memory_size takes gives
    size_is_sound false e is = absurd (cc is)
    size_is_sound true e is = of_fixed (Goal memory_size) [] (I32 ∷ []) takes gives form is acts
        (λ before after. ((next_low I32 after, plain_literal (bytes / 65536) (page_count given.few_bytes)), tt))

    three_sound : (xs : List ℕ) → HasRoom s c (here b (I32 ∷ I32 ∷ I32 ∷ below) xs) → AllSound s (three (b + length below))
    three_sound xs h = (third_low s c b I32 I32 I32 below xs h, (middle_of_three s c b I32 I32 I32 below xs h, (top_of_three s c b I32 I32 I32 below xs h, tt)))

    copy_is_sound : (m : Bool) → c.memory ≡ m → AsksAmong is_called.helpers memory_copy → unless m NoMemory (Fixed (I32 ∷ I32 ∷ I32 ∷ []) []) ≡ Ok form → Goal memory_copy takes gives
    copy_is_sound false e asked is = absurd (cc is)
    copy_is_sound true e asked is = of_fixed (Goal memory_copy) (I32 ∷ I32 ∷ I32 ∷ []) [] takes gives form is acts
        (λ before after. ((memory_helps memory_copy asked e names.copy (signature 3 false) refl refl, three_sound [] before), tt))

    fill_is_sound : (m : Bool) → c.memory ≡ m → AsksAmong is_called.helpers memory_fill → unless m NoMemory (Fixed (I32 ∷ I32 ∷ I32 ∷ []) []) ≡ Ok form → Goal memory_fill takes gives
    fill_is_sound false e asked is = absurd (cc is)
    fill_is_sound true e asked is = of_fixed (Goal memory_fill) (I32 ∷ I32 ∷ I32 ∷ []) [] takes gives form is acts
        (λ before after. ((memory_helps memory_fill asked e names.fill (signature 3 false) refl refl, three_sound [] before), tt))

    -- ---- select

    select_words : (t : ValType) → HasRoom s c (here b (I32 ∷ t ∷ t ∷ below) []) → AreSoundActions s (actions_amid bytes c ds select b (I32 ∷ t ∷ t ∷ below))
    select_words I32 h = all_simple s (selected (Some I32) (operand_pair (b + length below)) (operand_pair (b + length below + 1)) (low (b + length below + 2)))
        (selected_sound s I32 (operand_pair (b + length below)) (operand_pair (b + length below + 1)) (low (b + length below + 2)) (top_of_three s c b I32 I32 I32 below [] h)
        (third_low s c b I32 I32 I32 below [] h, tt) (middle_of_three s c b I32 I32 I32 below [] h, tt))
    select_words I64 h = all_simple s (selected (Some I64) (operand_pair (b + length below)) (operand_pair (b + length below + 1)) (low (b + length below + 2)))
        (selected_sound s I64 (operand_pair (b + length below)) (operand_pair (b + length below + 1)) (low (b + length below + 2)) (top_of_three s c b I32 I64 I64 below [] h)
        (third_low s c b I32 I64 I64 below [] h, (h.high_words (b + length below) (omega arith), tt)) (middle_of_three s c b I32 I64 I64 below [] h, (h.high_words (b + length below + 1) (omega arith), tt)))

    extended_is_sound : (wide : Bool) (bits : ℕ) → HasRoom s c (here b (kind_of wide ∷ below) []) → AreSoundSimple s (sign_extended wide bits (operand_pair (b + length below)))
    extended_is_sound false bits h = narrow_extended_sound s bits (operand_pair (b + length below)) (first_low s c b I32 below [] h)
    extended_is_sound true bits h = wide_extended_sound s bits (operand_pair (b + length below)) (first_low s c b I64 below [] h, first_high s c b below [] h)

    -- ---- pairs

    first_pair : (xs : List ℕ) → HasRoom s c (here b (I64 ∷ below) xs) → IsInt s (operand_pair (b + length below)).low × IsInt s (operand_pair (b + length below)).high
    first_pair xs h = (first_low s c b I64 below xs h, first_high s c b below xs h)

    second_pair : (xs : List ℕ) → HasRoom s c (here b (I64 ∷ I64 ∷ below) xs) → IsInt s (operand_pair (b + length below)).low × IsInt s (operand_pair (b + length below)).high
    second_pair xs h = (second_low s c b I64 I64 below xs h, second_high s c b I64 below xs h)

    top_pair : (xs : List ℕ) → HasRoom s c (here b (I64 ∷ I64 ∷ below) xs) → IsInt s (operand_pair (b + length below + 1)).low × IsInt s (operand_pair (b + length below + 1)).high
    top_pair xs h = (top_of_two s c b I64 I64 below xs h, top_high_of_two s c b I64 below xs h)

    plain_sound : (p : Plain) → IsFormed p → AsksAmong is_called.helpers p → plain_shape c p ≡ Ok form → Goal p takes gives
    plain_sound nop formed asked is = λ before after. tt
    plain_sound drop_operand formed asked is = λ before after. tt
    plain_sound select formed asked is = of_two_alike (Goal select) takes gives form is acts (λ t before after. select_words t before)
    plain_sound (local_get x) formed asked is = local_get_sound x (slice_get c.locals x) refl is
    plain_sound (local_set x) formed asked is = local_set_sound x (slice_get c.locals x) refl is
    plain_sound (local_tee x) formed asked is = local_tee_sound x (slice_get c.locals x) refl is
    plain_sound (global_get x) formed asked is = global_get_sound x (slice_get c.globals x) refl is
    plain_sound (global_set x) formed asked is = global_set_sound x (slice_get c.globals x) refl is
    plain_sound (load op align offset) formed asked is = load_is_sound op align offset c.memory refl formed asked is
    plain_sound (store op align offset) formed asked is = store_is_sound op align offset c.memory refl formed asked is
    plain_sound memory_size formed asked is = size_is_sound c.memory refl is
    plain_sound memory_copy formed asked is = copy_is_sound c.memory refl asked is
    plain_sound memory_fill formed asked is = fill_is_sound c.memory refl asked is
    plain_sound (const32 n) formed asked is = of_fixed (Goal (const32 n)) [] (I32 ∷ []) takes gives form is acts (λ before after. ((next_low I32 after, signed_literal n formed), tt))
    plain_sound (const64 n) formed asked is = of_fixed (Goal (const64 n)) [] (I64 ∷ []) takes gives form is acts
        (λ before after. let w = next_words I64 after in ((w.0, signed_literal (low_word n) (low_fits n)), ((w.1.0, signed_literal (high_word n) (high_fits n formed)), tt)))
    plain_sound eqz32 formed asked is = of_fixed (Goal eqz32) (I32 ∷ []) (I32 ∷ []) takes gives form is acts (λ before after. let f = first_low s c b I32 below [] before in ((f, (f, refl)), tt))
    plain_sound eqz64 formed asked is = of_fixed (Goal eqz64) (I64 ∷ []) (I32 ∷ []) takes gives form is acts (λ before after. let p = first_pair [] before in ((p.0, ((p.0, refl), (p.1, refl))), tt))
    plain_sound (rel32 op) formed asked is = of_fixed (Goal (rel32 op)) (I32 ∷ I32 ∷ []) (I32 ∷ []) takes gives form is acts
        (λ before after. let f = second_low s c b I32 I32 below [] before in ((f, narrow_relation_sound s op (low (b + length below)) (low (b + length below + 1)) f (top_of_two s c b I32 I32 below [] before)), tt))
    plain_sound (rel64 op) formed asked is = of_fixed (Goal (rel64 op)) (I64 ∷ I64 ∷ []) (I32 ∷ []) takes gives form is acts
        (λ before after. ((second_low s c b I64 I64 below [] before, wide_relation_sound s op (operand_pair (b + length below)) (operand_pair (b + length below + 1)) (second_pair [] before) (top_pair [] before)), tt))
    plain_sound (un32 op) formed asked is = of_fixed (Goal (un32 op)) (I32 ∷ []) (I32 ∷ []) takes gives form is acts
        (λ before after. all_simple s (narrow_unary op (low (b + length below))) (narrow_unary_sound s given.fixed op (words_help (un32 op) asked) (low (b + length below)) (first_low s c b I32 below [] before)))
    plain_sound (un64 op) formed asked is = of_fixed (Goal (un64 op)) (I64 ∷ []) (I64 ∷ []) takes gives form is acts
        (λ before after. let p = first_pair [] before in all_simple s (wide_unary op (operand_pair (b + length below)) (operand_pair (b + length below))) (wide_unary_sound s given.fixed op (words_help (un64 op) asked) (operand_pair (b + length below)) (operand_pair (b + length below)) p p))
    plain_sound (bin32 op) formed asked is = of_fixed (Goal (bin32 op)) (I32 ∷ I32 ∷ []) (I32 ∷ []) takes gives form is acts
        (λ before after. all_simple s (narrow_binary op (low (b + length below)) (low (b + length below + 1)))
        (narrow_binary_sound s given.fixed op (words_help (bin32 op) asked) (low (b + length below)) (low (b + length below + 1)) (second_low s c b I32 I32 below [] before) (top_of_two s c b I32 I32 below [] before)))
    plain_sound (bin64 op) formed asked is = of_fixed (Goal (bin64 op)) (I64 ∷ I64 ∷ []) (I64 ∷ []) takes gives form is acts
        (λ before after. let p = second_pair [] before in
        let count = number_at ds (low (b + length below + 1)) in
        all_simple s (wide_binary_at count op (operand_pair (b + length below)) (operand_pair (b + length below + 1)) (operand_pair (b + length below)))
        (wide_binary_at_sound s given.fixed count op (words_help (bin64 op) asked) (operand_pair (b + length below)) (operand_pair (b + length below + 1)) (operand_pair (b + length below)) p (top_pair [] before) p))
    plain_sound wrap formed asked is = λ before after. tt
    plain_sound extend_s formed asked is = of_fixed (Goal extend_s) (I32 ∷ []) (I64 ∷ []) takes gives form is acts (λ before after. let p = first_pair [] after in ((p.1, (p.0, refl)), tt))
    plain_sound extend_u formed asked is = of_fixed (Goal extend_u) (I32 ∷ []) (I64 ∷ []) takes gives form is acts (λ before after. ((first_high s c b below [] after, refl), tt))
    plain_sound (sign_extend wide bits) formed asked is = of_fixed (Goal (sign_extend wide bits)) (kind_of wide ∷ []) (kind_of wide ∷ []) takes gives form is acts
        (λ before after. all_simple s (sign_extended wide bits (operand_pair (b + length below))) (extended_is_sound wide bits after))

pub plain_is_sound : PlainIsSound
plain_is_sound s c is_called bytes cells given ds p formed asked form takes gives below is acts b before after = plain_sound s c is_called bytes cells given b below ds form takes gives acts p formed asked is before after
