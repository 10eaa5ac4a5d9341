-- A sum without its carry.
use Rattle.std.proofs.Common.{◌≡◌, ℕ, false, true, List, [], ◌∷◌, Some, None, pos, Ok, refl, sym, ap, ◌∙◌, subst, arith}
use Rattle.sem_words.specs.declared.word.Bin.TheVariants.{Add}
use Rattle.sem_words.specs.Words.{bin_of}
use Rattle.asm_lang_valid.specs.Typing.{at_top}
use Rattle.asm_lang_valid.specs.Refusal.{IsAccepted}
use Rattle.asm_lang_exec.specs.Runs.{Place, Run, goes}
use Rattle.asm_lang_exec.specs.Meaning.{Completion, normal}
use Rattle.wasm2js_lang.specs.SplitWords.{StandIn, IsWithin, MayReplace, IsApart, doing, wide_at, ComputesBinary, Ends}
use Rattle.split_words_worked.specs.LostCarry.{first, second, sum_by_halves, adding, home, before}

accepted : IsAccepted home
accepted = refl

stands : StandIn [] home adding sum_by_halves
stands = record { accepted = accepted; held = tt; zeros = refl; spare_is_int = refl; spare_is_shown = refl; around = at_top; typed = refl }

within : IsWithin home adding before
within = record { own = (refl, λ e. refl, (refl, λ e. refl, (refl, λ e. refl, (refl, λ e. refl, tt)))); others = (refl, λ e. refl, tt) }

replaced : MayReplace first first
replaced = record { low = refl; high = refl }

apart : IsApart first second
apart = record { low = refl; high = refl }

abbrev place_of : Run Completion → Place
place_of (goes d q) = q
place_of r = before

abbrev last : Place
last = place_of (doing home adding 256 sum_by_halves before)

low_sum : wide_at last first ≡ 4294967294
low_sum = refl

unequal : (n : ℕ) → bin_of 64 Add 4294967295 4294967295 ≡ Ok n → n ≡ 4294967294 → ⊥
unequal n h k = let e : 8589934590 ≡ n = cc h in omega (arith, e, k)

at_last : (q : Place) → last ≡ q → bin_of 64 Add 4294967295 4294967295 ≡ Ok (wide_at q first) → ⊥
at_last q e h = unequal (wide_at last first) (h ∙ ap (λ q. Ok (wide_at q first)) (sym e)) low_sum

pub not_a_sum : ComputesBinary [] sum_by_halves Add first second first → ⊥
not_a_sum h =
    let e = h replaced apart home adding stands 256 before within (omega arith) in
    let x = e.ends e.few in
    at_last x.0 (ap place_of x.1) x.4
