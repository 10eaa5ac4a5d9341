-- Quotients and remainders, under their guards.
use Rattle.std.proofs.Common.{◌≡◌, ℕ, zero, suc, ◌+◌, ◌≤◌, Bool, true, false, List, [], ◌∷◌, ◌++◌, length, Some, Ok, refl, sym, ap, ◌∙◌, arith}
use Rattle.std.specs.Prelude.{◌==◌, if◌then◌else◌}
use Rattle.std.proofs.lemmas.Bool.Decides.{nat_tests}
use Rattle.sem_words.specs.declared.word.Word.{Word}
use Rattle.sem_words.specs.declared.word.Word.TheVariants.{W32}
use Rattle.sem_words.specs.declared.word.Bin.{Bin}
use Rattle.sem_words.specs.declared.word.Bin.TheVariants as bins
use Rattle.sem_words.specs.declared.word.Rel.TheVariants as rels
use Rattle.sem_words.specs.declared.js_value.JsValue.{JsValue}
use Rattle.sem_words.specs.declared.js_value.JsOp.TheVariants.{Div, Rem}
use Rattle.sem_words.specs.Words.{add_of, bin_of, rel_of}
use Rattle.sem_words.specs.JsValues.{to_uint32_of}
use Rattle.sem_words.specs.JsOperators.{js_binary_of}
use Rattle.wasm_lang.specs.declared.types.ValType.TheVariants.{I32}
use Rattle.wasm_lang.specs.Instructions.{Plain, local_get, local_set, bin32, rel32}
use Rattle.wasm_lang_exec.specs.Plain.{flag, answer32}
use Rattle.wasm_lang_exec.specs.Reductions.{choose}
use Rattle.asm_types.specs.Values.{fits_of}
use Rattle.asm_lang_exec.specs.Runs.{Place, gives, defined}
use Rattle.asm2wasm_translation.specs.Values as translated
use Rattle.asm2wasm_translation.specs.Values.{number, quotient}
use Rattle.asm2wasm_laws_words.specs.Laws.{compared, signed_quotient, guarded}
use Rattle.asm2wasm_laws_words.proofs.Divided.{signed_quotients, unsigned_quotients, signed_remainders, unsigned_remainders}
use Rattle.asm2wasm_laws_run.specs.Straight.{reached, on_from, effects}
use Rattle.asm2wasm_laws_run.specs.State.{words, store_of, Holds, AnyValue}
use Rattle.asm2wasm_laws_preservation.specs.Kept.{word, a_value, Surroundings, Keeps}
use Rattle.asm2wasm_laws_preservation.proofs.Joined.{keeps_defined}
use Rattle.asm2wasm_laws_preservation.proofs.Scratch.{Guarding, keeps_guarding, scratch_x, scratch_y, both_in, as_many_both, kept_both, both_taken, both_used}

module _ (s : Surroundings) (limit d : ℕ) (enough : d + 2 ≤ s.scratch) where
  abbrev x : ℕ
  x = scratch_x s limit d

  abbrev y : ℕ
  y = scratch_y s limit d

  abbrev on_both : Bin → List Plain
  on_both op = local_get x ∷ local_get y ∷ bin32 op ∷ []

  -- ---- a divisor that isn't 0

  keeps_guarded : (op : Bin) (v w z : JsValue) → guarded op (to_uint32_of v) (to_uint32_of w) ≡ Ok (to_uint32_of z)
      → Keeps s limit d (word w ∷ word v ∷ []) AnyValue a_value (translated.guarded x y op) (gives z)
  keeps_guarded op v w z e = keeps_guarding s limit d (word w ∷ word v ∷ []) (Some I32) (local_set y ∷ local_set x ∷ local_get y ∷ []) (on_both op) (number 0 ∷ []) (gives z) does
    where
      does : (p : Place) (scratch stack : List Word) → Holds s.fixed s.home s.heap s.within p → length scratch ≡ s.scratch
          → Guarding s limit d (word w ∷ word v ∷ []) (local_set y ∷ local_set x ∷ local_get y ∷ []) (on_both op) (number 0 ∷ []) (gives z) p scratch stack
      does p scratch stack h many =
          let room : d + 2 ≤ length scratch = omega (arith, enough, many) in record {
            value = z;
            is = refl;
            flag = to_uint32_of w;
            scratch_then = both_in s limit d p scratch h (word v) (word w);
            as_many = as_many_both s limit d p scratch h room (word v) (word w);
            kept = kept_both s limit d p scratch h room (word v) (word w);
            test = both_taken s limit d p scratch h room (word v) (word w) [] stack (store_of s.fixed p);
            does = by (to_uint32_of w) refl;
          }
        where
          by : (n : ℕ) → to_uint32_of w ≡ n
              → effects (choose (to_uint32_of w) (on_both op) (number 0 ∷ [])) [] (words p.locals ++ both_in s limit d p scratch h (word v) (word w)) (store_of s.fixed p)
              ≡ Some (reached (a_value z) (words p.locals ++ both_in s limit d p scratch h (word v) (word w)) (store_of s.fixed p))
          by zero is =
              let ls = words p.locals ++ both_in s limit d p scratch h (word v) (word w) in
              let st = store_of s.fixed p in
              let ok = sym (ap (guarded op (to_uint32_of v)) is) ∙ e in
              let n : 0 ≡ to_uint32_of z = cc ok in
              ap (λ n. effects (choose n (on_both op) (number 0 ∷ [])) [] ls st) is ∙ ap (λ n. Some (reached (W32 n ∷ []) ls st)) n
          by (suc n) is =
              let room : d + 2 ≤ length scratch = omega (arith, enough, many) in
              let ls = words p.locals ++ both_in s limit d p scratch h (word v) (word w) in
              let st = store_of s.fixed p in
              let some : (to_uint32_of w == 0) ≡ false = grind (arith, nat_tests, is) in
              let ok = sym (ap (λ b. if b then Ok 0 else bin_of 32 op (to_uint32_of v) (to_uint32_of w)) some) ∙ e in
              ap (λ n. effects (choose n (on_both op) (number 0 ∷ [])) [] ls st) is
              ∙ both_used s limit d p scratch h room op (to_uint32_of v) (to_uint32_of w) st
              ∙ ap (λ r. on_from (answer32 r [] ls st) (effects [])) ok

  -- ---- signed quotients

  abbrev quotient_guard : List Plain
  quotient_guard = local_set y ∷ local_set x ∷ local_get y ∷ number 1 ∷ bin32 bins.Add ∷ number 1 ∷ rel32 rels.GtU ∷ []

  keeps_signed : (v w z : JsValue) → signed_quotient (to_uint32_of v) (to_uint32_of w) ≡ Ok (to_uint32_of z)
      → Keeps s limit d (word w ∷ word v ∷ []) AnyValue a_value (translated.signed_quotient x y) (gives z)
  keeps_signed v w z e = keeps_guarding s limit d (word w ∷ word v ∷ []) (Some I32) quotient_guard (on_both bins.DivS) (on_both bins.Mul) (gives z) does
    where
      does : (p : Place) (scratch stack : List Word) → Holds s.fixed s.home s.heap s.within p → length scratch ≡ s.scratch
          → Guarding s limit d (word w ∷ word v ∷ []) quotient_guard (on_both bins.DivS) (on_both bins.Mul) (gives z) p scratch stack
      does p scratch stack h many =
          let room : d + 2 ≤ length scratch = omega (arith, enough, many) in record {
            value = z;
            is = refl;
            flag = flag (rel_of 32 rels.GtU (add_of 32 (to_uint32_of w) 1) 1);
            scratch_then = both_in s limit d p scratch h (word v) (word w);
            as_many = as_many_both s limit d p scratch h room (word v) (word w);
            kept = kept_both s limit d p scratch h room (word v) (word w);
            test = both_taken s limit d p scratch h room (word v) (word w) (number 1 ∷ bin32 bins.Add ∷ number 1 ∷ rel32 rels.GtU ∷ []) stack (store_of s.fixed p);
            does = by (rel_of 32 rels.GtU (add_of 32 (to_uint32_of w) 1) 1) e;
          }
        where
          by : (b : Bool) → (if b then bin_of 32 bins.DivS (to_uint32_of v) (to_uint32_of w) else bin_of 32 bins.Mul (to_uint32_of v) (to_uint32_of w)) ≡ Ok (to_uint32_of z)
              → effects (choose (flag b) (on_both bins.DivS) (on_both bins.Mul)) [] (words p.locals ++ both_in s limit d p scratch h (word v) (word w)) (store_of s.fixed p)
              ≡ Some (reached (a_value z) (words p.locals ++ both_in s limit d p scratch h (word v) (word w)) (store_of s.fixed p))
          by true ok =
              let room : d + 2 ≤ length scratch = omega (arith, enough, many) in
              let ls = words p.locals ++ both_in s limit d p scratch h (word v) (word w) in
              let st = store_of s.fixed p in
              both_used s limit d p scratch h room bins.DivS (to_uint32_of v) (to_uint32_of w) st ∙ ap (λ r. on_from (answer32 r [] ls st) (effects [])) ok
          by false ok =
              let room : d + 2 ≤ length scratch = omega (arith, enough, many) in
              let ls = words p.locals ++ both_in s limit d p scratch h (word v) (word w) in
              let st = store_of s.fixed p in
              both_used s limit d p scratch h room bins.Mul (to_uint32_of v) (to_uint32_of w) st ∙ ap (λ r. on_from (answer32 r [] ls st) (effects [])) ok

  -- ---- by the type of the operands

  pub keeps_quotient : (unsigned : Bool) (v w : JsValue) → fits_of (compared unsigned) v ≡ true → fits_of (compared unsigned) w ≡ true
      → Keeps s limit d (word w ∷ word v ∷ []) AnyValue a_value (quotient unsigned x y) (defined (js_binary_of Div v w))
  keeps_quotient true v w f g =
      keeps_defined s limit d (word w ∷ word v ∷ []) AnyValue a_value (quotient true x y) (js_binary_of Div v w) (λ z e. keeps_guarded bins.DivU v w z (unsigned_quotients v w z f g e))
  keeps_quotient false v w f g =
      keeps_defined s limit d (word w ∷ word v ∷ []) AnyValue a_value (quotient false x y) (js_binary_of Div v w) (λ z e. keeps_signed v w z (signed_quotients v w z f g e))

  pub keeps_remainder : (unsigned : Bool) (v w : JsValue) → fits_of (compared unsigned) v ≡ true → fits_of (compared unsigned) w ≡ true
      → Keeps s limit d (word w ∷ word v ∷ []) AnyValue a_value (translated.guarded x y (if unsigned then bins.RemU else bins.RemS)) (defined (js_binary_of Rem v w))
  keeps_remainder true v w f g =
      keeps_defined s limit d (word w ∷ word v ∷ []) AnyValue a_value (translated.guarded x y bins.RemU) (js_binary_of Rem v w) (λ z e. keeps_guarded bins.RemU v w z (unsigned_remainders v w z f g e))
  keeps_remainder false v w f g =
      keeps_defined s limit d (word w ∷ word v ∷ []) AnyValue a_value (translated.guarded x y bins.RemS) (js_binary_of Rem v w) (λ z e. keeps_guarded bins.RemS v w z (signed_remainders v w z f g e))
