-- How many labels stand inside the one that is meant, run by run.
use Rattle.std.proofs.Common.{◌≡◌, ℕ, zero, suc, ◌+◌, Bool, true, false, List, [], ◌++◌, Option, Some, None, refl, sym, ap, ◌∙◌, arith, zero-add}
use Rattle.std.specs.Prelude.{replicate, if◌then◌else◌}
use Rattle.std.specs.Borrow.{Bor}
use Rattle.asm2wasm_translation.specs.Bodies as code
use Rattle.asm2wasm_emit_switches.specs.declared.labels.Branch.{Branch}
use Rattle.asm2wasm_emit_switches.specs.declared.labels.Branch.TheVariants.{Break, Continue}
use Rattle.asm2wasm_emit_switches.specs.declared.labels.Open.{Open}
use Rattle.asm2wasm_emit_switches.specs.declared.labels.Open.TheVariants.{Plainly, Breakable, NamedEnd, NextTurn}
use Rattle.asm2wasm_emit_switches.specs.declared.labels.Labels.{Labels, fold-roll-Labels}
use Rattle.asm2wasm_emit_switches.specs.declared.labels.Labels.TheOpen as layers
use Rattle.asm2wasm_emit_switches.specs.declared.labels.Labels.TheVariants as variants
use Rattle.asm2wasm_emit_switches.specs.Labels.{run_view, layer, labels_view, meant, run_length, is_met}

pub labels_view-Nothing : labels_view variants.Nothing ≡ []
unfolding labels_view
labels_view-Nothing = ap labels_view (sym variants.rolls-Nothing) ∙ fold-roll-Labels (List code.Label) layer layers.Nothing

pub labels_view-Inside : (o : Open) (outer : Bor Labels) → labels_view (variants.Inside o outer) ≡ run_view o ++ labels_view outer.now
unfolding labels_view
labels_view-Inside o outer = ap labels_view (sym (variants.rolls-Inside o outer)) ∙ fold-roll-Labels (List code.Label) layer (layers.Inside o outer)

never_plainly : (b : Branch) (n : Option (List ℕ)) → meant b n code.plainly ≡ false
never_plainly Break None = refl
never_plainly Break (Some n) = refl
never_plainly Continue None = refl
never_plainly Continue (Some n) = refl

inside_plainly : (is : code.Label → Bool) → is code.plainly ≡ false → (n : ℕ) (ls : List code.Label) → code.labels_inside is (replicate n code.plainly ++ ls) ≡ n + code.labels_inside is ls
inside_plainly is h zero ls = sym (zero-add (code.labels_inside is ls))
inside_plainly is h (suc n) ls =
    let e = inside_plainly is h n ls in
    let t : suc (n + code.labels_inside is ls) ≡ suc n + code.labels_inside is ls = omega arith in
    ap (λ b. if b then 0 else suc (code.labels_inside is (replicate n code.plainly ++ ls))) h ∙ ap suc e ∙ t

one_more : (b : Bool) (n : ℕ) → (if b then 0 else suc n) ≡ (if b then 0 else 1 + n)
one_more true n = refl
one_more false n = omega arith

inside_run : (is : code.Label → Bool) → is code.plainly ≡ false → (o : Open) (ls : List code.Label) → code.labels_inside is (run_view o ++ ls) ≡ (if is_met is o then 0 else run_length o + code.labels_inside is ls)
inside_run is h (Plainly n) ls = inside_plainly is h n ls
inside_run is h Breakable ls = one_more (is_met is Breakable) (code.labels_inside is ls)
inside_run is h (NamedEnd ns) ls = one_more (is_met is (NamedEnd ns)) (code.labels_inside is ls)
inside_run is h (NextTurn ns) ls = one_more (is_met is (NextTurn ns)) (code.labels_inside is ls)

pub inside_open : (b : Branch) (n : Option (List ℕ)) (labels : Labels) (o : Open) (outer : Bor Labels) → labels ≡ variants.Inside o outer → code.labels_inside (meant b n) (labels_view labels) ≡ (if is_met (meant b n) o then 0 else run_length o + code.labels_inside (meant b n) (labels_view outer.now))
inside_open b n labels o outer is =
    ap (λ l. code.labels_inside (meant b n) (labels_view l)) is
    ∙ ap (code.labels_inside (meant b n)) (labels_view-Inside o outer)
    ∙ inside_run (meant b n) (never_plainly b n) o (labels_view outer.now)

pub inside_nothing : (b : Branch) (n : Option (List ℕ)) (labels : Labels) → labels ≡ variants.Nothing → code.labels_inside (meant b n) (labels_view labels) ≡ 0
inside_nothing b n labels is = ap (λ l. code.labels_inside (meant b n) (labels_view l)) is ∙ ap (code.labels_inside (meant b n)) labels_view-Nothing

pub inside_past : (b : Branch) (n : Option (List ℕ)) (labels : Labels) (o : Open) (outer : Bor Labels) (met : Bool) → labels ≡ variants.Inside o outer → met ≡ is_met (meant b n) o → met ≡ false → code.labels_inside (meant b n) (labels_view labels) ≡ run_length o + code.labels_inside (meant b n) (labels_view outer.now)
inside_past b n labels o outer met is e f =
    inside_open b n labels o outer is
    ∙ ap (λ x. if x then 0 else run_length o + code.labels_inside (meant b n) (labels_view outer.now)) (sym e ∙ f)

pub inside_met : (b : Branch) (n : Option (List ℕ)) (labels : Labels) (o : Open) (outer : Bor Labels) (met : Bool) → labels ≡ variants.Inside o outer → met ≡ is_met (meant b n) o → met ≡ true → code.labels_inside (meant b n) (labels_view labels) ≡ 0
inside_met b n labels o outer met is e f =
    inside_open b n labels o outer is
    ∙ ap (λ x. if x then 0 else run_length o + code.labels_inside (meant b n) (labels_view outer.now)) (sym e ∙ f)
