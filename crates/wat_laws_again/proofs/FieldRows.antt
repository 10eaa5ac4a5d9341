-- No row refuses a field of a canonical text.
use Rattle.std.proofs.Common.{◌≡◌, ℕ, suc, ◌+◌, ◌-◌, ◌^◌, ◌<◌, ◌≤◌, Bool, true, false, ◌&&◌, not, List, [], ◌∷◌, ◌++◌, length, drop, Option, Some, None, decimal, ℤ, refl, sym, ap, ◌∙◌, subst, arith, length-drop}
use Rattle.std.specs.Prelude.{nat_le, slice_get, if◌then◌else◌}
use Rattle.std.specs.List.{AllByRecursion}
use Rattle.std.proofs.lemmas.Bool.{lt-leb, lt-ltb}
use Rattle.std.proofs.lemmas.List.{length-map}
use Rattle.wasm_lang.specs.declared.types.ValType.{ValType}
use Rattle.wasm_lang.specs.Instructions.{Plain, global_get, const32, const64, Instruction, block, loop, if_block, end_mark, plain}
use Rattle.wasm_lang.specs.Limits.{most_levels, levels_from}
use Rattle.wasm_lang.specs.Modules.{FunctionType}
use Rattle.wat_lang.specs.declared.parts.Space.{Space}
use Rattle.wat_lang.specs.declared.parts.Space.TheVariants as spaces
use Rattle.wat_lang.specs.declared.parts.Part.{Part}
use Rattle.wat_lang.specs.declared.parts.Part.TheVariants.{Param, Result}
use Rattle.wat_lang.specs.declared.fault.Row.TheVariants as rows
use Rattle.wat_lang.specs.Grammar.{Mark, nothing, a_field, binds, an_instruction, Marked}
use Rattle.wat_lang.specs.Names.{type_of, types_part, all_with, Names, place_of_id, natural, index_of, types_in, signature_of, type_use, labels_after}
use Rattle.wat_lang.specs.Rows.{where_holds, opens_block, use_rows, same_signature, is_bad_use, known_use, from_count, head_rows}
use Rattle.wat_laws_print.proofs.ReadNumbers.{decimal_read}
use Rattle.wat_laws_again.specs.Signs.{Sign, placed, open_sign, close_sign, put_immediates, put_instruction, put_code}
use Rattle.wat_laws_again.specs.Fitting.{IsPlainValue, IsValue}
use Rattle.wat_laws_read.proofs.Cuts.{parts_hold}
use Rattle.wat_laws_again.proofs.Over.{here, Over, same, more, weaken, IsImmediate, IsStill, still_immediate, AllNothing}
use Rattle.wat_laws_again.proofs.CodeBack.{immediates_over}
use Rattle.wat_laws_again.proofs.Flat.{IsFlat, IsFlatMark, placed_flat, known_use_fine}

-- ---- blocks that are open

abbrev pub LevelsFit : Names → List Marked → Type 0
LevelsFit labels [] = Unit {0}
LevelsFit labels (m ∷ ms) = (opens_block m.mark && nat_le most_levels (length labels) ≡ false) × LevelsFit (labels_after labels m) ms

no_use_rows : (g : Names → Space → Names) (labels : Names) (ms : List Marked) → AllByRecursion IsFlatMark ms → LevelsFit labels ms → use_rows g labels ms ≡ []
no_use_rows g labels [] flat fit = refl
no_use_rows g labels (m ∷ ms) flat fit =
    let opens = opens_block m.mark && nat_le most_levels (length labels) in
    ap (λ (b : Bool). where_holds b rows.IdUnknown m.token.at ++ (where_holds opens rows.Limit m.token.at ++ use_rows g (labels_after labels m) ms)) (known_use_fine (g labels) m.mark m.token flat.0)
    ∙ ap (λ (b : Bool). where_holds b rows.Limit m.token.at ++ use_rows g (labels_after labels m) ms) fit.0 ∙ no_use_rows g (labels_after labels m) ms flat.1 fit.1

pub free_parts : (g : Names → Space → Names) (ss : List Sign) → AllByRecursion IsFlat ss → (ns : List ℕ) → LevelsFit [] (here (placed ns ss)) → use_rows g [] (here (placed ns ss)) ≡ []
free_parts g ss flat ns fit = no_use_rows g [] (here (placed ns ss)) (parts_hold IsFlatMark (placed ns ss) (placed_flat ns ss flat)).0 fit

pub nothing_opens : (labels : Names) (ms : List Marked) → AllNothing ms → LevelsFit labels ms
nothing_opens labels [] all = tt
nothing_opens labels (m ∷ ms) all = by m.mark all.0 (λ ls. nothing_opens ls ms all.1)
  where
    by : (k : Mark) → k ≡ nothing → ((ls : Names) → LevelsFit ls ms) → (opens_block k && nat_le most_levels (length labels) ≡ false) × LevelsFit (labels_after labels m) ms
    by nothing e below = (refl, below (labels_after labels m))
    by _ e below = absurd cc

pub still_levels : {k ss : List Sign} → Over IsStill k ss → (labels : Names) → ((ns : List ℕ) → LevelsFit labels (here (placed ns k))) → (ns : List ℕ) → LevelsFit labels (here (placed ns ss))
still_levels same labels h ns = h ns
still_levels (more {m = m} {c = c} {ss = ss} q o) labels h ns = by m q (λ ns. still_levels o labels h ns)
  where
    by : (m : Mark) → IsStill m → ((ns : List ℕ) → LevelsFit labels (here (placed ns ss))) → LevelsFit labels (here (placed ns ((m, c) ∷ ss)))
    by (a_field kind) q below = absurd q
    by (an_instruction form) q below = absurd q
    by (binds s) q below = absurd q
    by m q below = (refl, below (drop 1 ns))

levels_least : (is : List Instruction) (n : ℕ) → n ≤ levels_from n is
levels_least [] n = omega arith
levels_least (block r ∷ is) n = let h = levels_least is (n + 1) in omega (arith, h)
levels_least (loop r ∷ is) n = let h = levels_least is (n + 1) in omega (arith, h)
levels_least (if_block r ∷ is) n = let h = levels_least is (n + 1) in omega (arith, h)
levels_least (end_mark ∷ is) n = omega arith
levels_least (i ∷ is) n = levels_least is n

-- a block that is opened within the limit
may_open : (labels : Names) (is : List Instruction) → levels_from (length labels + 1) is ≤ most_levels → (nat_le most_levels (length labels) ≡ false) × (levels_from (suc (length labels)) is ≤ most_levels)
may_open labels is h =
    let least = levels_least is (length labels + 1) in
    (lt-leb most_levels (length labels) (omega (arith, h, least)), subst (λ n. levels_from n is ≤ most_levels) (let e : length labels + 1 ≡ suc (length labels) = omega arith in e) h)

module _ (k : List Sign) where
  abbrev Rest : List Instruction → Type 0
  Rest is = (labels : Names) → levels_from (length labels) (is ++ end_mark ∷ []) ≤ most_levels → (ns : List ℕ) → LevelsFit labels (here (placed ns (put_code is k)))

  after : (i : Instruction) (is : List Instruction) (labels : Names) → ((ns : List ℕ) → LevelsFit labels (here (placed ns (put_code is k)))) → (ns : List ℕ) → LevelsFit labels (here (placed ns (put_immediates i (put_code is k))))
  after i is labels h ns = still_levels (weaken IsImmediate IsStill still_immediate (immediates_over i (put_code is k))) labels h ns

  one_more : (i : Instruction) (is : List Instruction) → Rest is → Rest (i ∷ is)
  one_more (block r) is rest labels h ns =
      let open_one = may_open labels (is ++ end_mark ∷ []) h in (open_one.0, after (block r) is (None ∷ labels) (rest (None ∷ labels) open_one.1) (drop 1 ns))
  one_more (loop r) is rest labels h ns =
      let open_one = may_open labels (is ++ end_mark ∷ []) h in (open_one.0, after (loop r) is (None ∷ labels) (rest (None ∷ labels) open_one.1) (drop 1 ns))
  one_more (if_block r) is rest labels h ns =
      let open_one = may_open labels (is ++ end_mark ∷ []) h in (open_one.0, after (if_block r) is (None ∷ labels) (rest (None ∷ labels) open_one.1) (drop 1 ns))
  one_more end_mark is rest labels h ns =
      let fewer : length labels - 1 ≡ length (drop 1 labels) = sym (length-drop 1 labels) in
      let below : levels_from (length labels - 1) (is ++ end_mark ∷ []) ≤ most_levels = omega (arith, h) in
      (refl, after end_mark is (drop 1 labels) (rest (drop 1 labels) (subst (λ n. levels_from n (is ++ end_mark ∷ []) ≤ most_levels) fewer below)) (drop 1 ns))
  one_more (plain p) is rest labels h ns = (refl, after (plain p) is labels (rest labels h) (drop 1 ns))
  one_more i is rest labels h ns = (refl, after i is labels (rest labels h) (drop 1 ns))

  pub code_levels : ((labels : Names) (ns : List ℕ) → LevelsFit labels (here (placed ns k))) → (is : List Instruction) → Rest is
  code_levels base [] labels h ns = base labels ns
  code_levels base (i ∷ is) labels h ns = one_more i is (code_levels base is) labels h ns

-- one constant
pub constant_levels : (i : Instruction) (k : List Sign) → IsValue i → ((ns : List ℕ) → LevelsFit [] (here (placed ns k))) → (ns : List ℕ) → LevelsFit [] (here (placed ns (open_sign ∷ put_instruction i (close_sign ∷ k))))
constant_levels (plain p) k v h ns = by p v
  where
    by : (p : Plain) → IsPlainValue p → LevelsFit [] (here (placed ns (open_sign ∷ put_instruction (plain p) (close_sign ∷ k))))
    by (global_get x) v = (refl, (refl, (refl, (refl, h (drop 1 (drop 1 (drop 1 (drop 1 ns))))))))
    by (const32 x) v = (refl, (refl, (refl, (refl, h (drop 1 (drop 1 (drop 1 (drop 1 ns))))))))
    by (const64 x) v = (refl, (refl, (refl, (refl, h (drop 1 (drop 1 (drop 1 (drop 1 ns))))))))
    by _ v = absurd v
constant_levels _ k v h ns = absurd v

-- ---- types that functions have

abbrev bad_by : List FunctionType → List Marked → Option FunctionType → Bool
bad_by types ms None = true
bad_by types ms (Some type) = not (same_signature (signature_of ms) (record { params = []; results = [] })) && not (same_signature (signature_of ms) type)

use_is : (types : List FunctionType) (ms : List Marked) (n : ℕ) (o : Option FunctionType) → slice_get types n ≡ o → is_bad_use types ms (Some n) ≡ bad_by types ms o
use_is types ms n None e = rw (e, is_bad_use) refl
use_is types ms n (Some t) e = rw (e, is_bad_use) refl

-- a function of a type that is there, without parameters and results of its own
pub good_use : (types : List FunctionType) (ms : List Marked) (n : ℕ) (t : FunctionType) → slice_get types n ≡ Some t → types_in Param ms ≡ [] → types_in Result ms ≡ [] → is_bad_use types ms (Some n) ≡ false
good_use types ms n t e p r =
    use_is types ms n (Some t) e
    ∙ ap (λ (ps : List ValType). not (same_signature (record { params = ps; results = types_in Result ms }) (record { params = []; results = [] })) && not (same_signature (record { params = ps; results = types_in Result ms }) t)) p
    ∙ ap (λ (rs : List ValType). not (same_signature (record { params = []; results = rs }) (record { params = []; results = [] })) && not (same_signature (record { params = []; results = rs }) t)) r

pub index_some : (names : Names) (n : ℕ) → n < 2 ^ 32 → index_of names (decimal n) ≡ Some n
index_some names n h = ap (λ (o : Option ℤ). let x : Option ℕ = elim o [ Some z ↦ natural z | None ↦ place_of_id (decimal n) names ] in x) (decimal_read n (omega (arith, h)))

pub use_known : (n : ℕ) → n < 2 ^ 32 → known_use (Some n) ≡ Some n
use_known n h = ap (λ (b : Bool). let x : Option ℕ = if b then Some n else None in x) (lt-ltb n (2 ^ 32) h)

pub no_head_rows : (names : Space → Names) (types : List FunctionType) (at : ℕ) (ms : List Marked) (n : ℕ) (t : FunctionType) → type_use (names spaces.Type) ms ≡ index_of (names spaces.Type) (decimal n) → n < 2 ^ 32 → slice_get types n ≡ Some t
    → types_in Param ms ≡ [] → types_in Result ms ≡ [] → head_rows names types at ms ≡ []
no_head_rows names types at ms n t known h e p r =
    ap (λ (o : Option ℕ). where_holds (is_bad_use types ms (known_use o)) rows.TypeUse at) (known ∙ index_some (names spaces.Type) n h)
    ∙ ap (λ (o : Option ℕ). where_holds (is_bad_use types ms o) rows.TypeUse at) (use_known n h) ∙ ap (λ (b : Bool). where_holds b rows.TypeUse at) (good_use types ms n t e p r)

-- ---- counts

pub none_over : (most before : ℕ) (ms : List Marked) → before + length ms ≤ most → from_count most before ms ≡ []
none_over most before [] h = refl
none_over most before (m ∷ ms) h =
    ap (λ (b : Bool). where_holds b rows.Limit m.token.at ++ from_count most (before + 1) ms) (lt-leb most before (omega (arith, h))) ∙ none_over most (before + 1) ms (omega (arith, h))

pub types_not_over : (most before : ℕ) (p : Part) (ms : List Marked) (ts : List ValType) → types_in p ms ≡ ts → before + length ts ≤ most → from_count most before (all_with (types_part p) ms) ≡ []
types_not_over most before p ms ts e h =
    let a : length (types_in p ms) ≡ length (all_with (types_part p) ms) = length-map (all_with (types_part p) ms) type_of in
    let b = ap length e in
    none_over most before (all_with (types_part p) ms) (omega (arith, a, b, h))
