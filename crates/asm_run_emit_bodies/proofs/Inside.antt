-- Where jumps go from inside one statement more.
use Rattle.std.proofs.Common.{◌≡◌, ℕ, suc, ◌+◌, Bool, true, false, ◌||◌, List, [], ◌∷◌, length, drop, Option, Some, None, Result, Ok, Err, OnOk, refl, sym, ap, subst, ◌∙◌, arith, drop-drop}
use Rattle.std.proofs.lemmas.List.{length-map}
use Rattle.std.specs.Prelude.{if◌then◌else◌}
use Rattle.std.specs.Option.{unwrap_or}
use Rattle.std.specs.Cmp.Lexicographic.{nat_list_eq_equiv}
use Rattle.std.specs.Str.{bytes_eq}
use Rattle.sem_words.specs.declared.text.Text.{Text}
use Rattle.sem_words.specs.Lists.{text_bytes}
use Rattle.asm_lang_valid.specs.Scope.{is_in}
use Rattle.asm_tree.specs.Views.{texts_view}
use Rattle.asm_run_emit_bodies.specs.Targets.{Target, found, those}
use Rattle.asm_run_code.specs.Bodies as code
use Rattle.asm_run_code.specs.Bodies.{Around, a_loop, a_switch, a_named}
use Rattle.asm_run_emit_bodies.specs.declared.jumps.Jumps.{Jumps}
use Rattle.asm_run_emit_bodies.specs.Jumps.{inside, address, Meets}

-- ---- labels of one statement

abbrev place : List ℕ → ℕ → Target
place n at = record { label = Some n; at = at }

either : (a b : Bool) (x y : Option ℕ) → (if b then x else (if a then x else y)) ≡ (if a || b then x else y)
either true true x y = refl
either true false x y = refl
either false true x y = refl
either false false x y = refl

those_found : (ns : List (List ℕ)) (at : ℕ) (ts : List Target) (n : List ℕ) → found (those ns at ts) (Some n) ≡ (if is_in n ns then Some at else found ts (Some n))
those_found [] at ts n = refl
those_found (m ∷ ns) at ts n =
    those_found ns at (place m at ∷ ts) n
    ∙ ap (λ (b : Bool). if is_in n ns then Some at else (if b then Some at else found ts (Some n))) (nat_list_eq_equiv.symm n m)
    ∙ either (bytes_eq m n) (is_in n ns) (Some at) (found ts (Some n))

none_found : (ns : List (List ℕ)) (at : ℕ) (ts : List Target) → found (those ns at ts) None ≡ found ts None
none_found [] at ts = refl
none_found (m ∷ ns) at ts = none_found ns at (place m at ∷ ts)

chosen : (b : Bool) (x : ℕ) (o : Option ℕ) (y : ℕ) → unwrap_or o 0 ≡ y → unwrap_or (if b then Some x else o) 0 ≡ (if b then x else y)
chosen true x o y e = refl
chosen false x o y e = e

-- ---- inside one more

module _ (os : List Around) (j : Jumps) (m : Meets j os) where
  break_inside : (o : Around) (label : Option (List ℕ)) → address (inside o j).breaks label ≡ code.break_address (o ∷ os) label
  break_inside (a_loop own next past) None = refl
  break_inside (a_loop own next past) (Some n) = m.breaks (Some n)
  break_inside (a_switch past) None = refl
  break_inside (a_switch past) (Some n) = m.breaks (Some n)
  break_inside (a_named ns past) None = ap (λ (o : Option ℕ). unwrap_or o 0) (none_found ns past j.breaks) ∙ m.breaks None
  break_inside (a_named ns past) (Some n) =
      ap (λ (o : Option ℕ). unwrap_or o 0) (those_found ns past j.breaks n)
      ∙ chosen (is_in n ns) past (found j.breaks (Some n)) (code.break_address os (Some n)) (m.breaks (Some n))

  continue_inside : (o : Around) (label : Option (List ℕ)) → address (inside o j).continues label ≡ code.continue_address (o ∷ os) label
  continue_inside (a_loop own next past) None = refl
  continue_inside (a_loop own next past) (Some n) =
      ap (λ (o : Option ℕ). unwrap_or o 0) (those_found own next j.continues n)
      ∙ chosen (is_in n own) next (found j.continues (Some n)) (code.continue_address os (Some n)) (m.continues (Some n))
  continue_inside (a_switch past) label = m.continues label
  continue_inside (a_named ns past) label = m.continues label

  pub meets_inside : (o : Around) → Meets (inside o j) (o ∷ os)
  meets_inside o = record { breaks = break_inside o; continues = continue_inside o }

pub meets_entered : (o : Around) (os : List Around) (j k : Jumps) → k ≡ inside o j → Meets j os → Meets k (o ∷ os)
meets_entered o os j k e m = subst (λ (k : Jumps). Meets k (o ∷ os)) (sym e) (meets_inside os j m o)

pub meets_same : (os : List Around) (j k : Jumps) → k ≡ j → Meets j os → Meets k os
meets_same os j k e m = subst (λ (k : Jumps). Meets k os) (sym e) m

pub meets_nothing : (j : Jumps) → j ≡ record { breaks = []; continues = [] } → Meets j []
meets_nothing j e = subst (λ (j : Jumps). Meets j []) (sym e) (record { breaks = λ label. refl; continues = λ label. refl })

-- ---- outside again

pub all_closed : (ns : List (List ℕ)) (at : ℕ) (ts : List Target) → drop (length ns) (those ns at ts) ≡ ts
all_closed [] at ts = refl
all_closed (n ∷ ns) at ts =
    let more : suc (length ns) ≡ length ns + 1 = omega arith in
    ap (λ (k : ℕ). drop k (those ns at (place n at ∷ ts))) more
    ∙ sym (drop-drop 1 (length ns) (those ns at (place n at ∷ ts)))
    ∙ ap (drop 1) (all_closed ns at (place n at ∷ ts))

texts_count : (ts : List Text) → length (texts_view ts) ≡ length ts
texts_count ts = length-map ts text_bytes

module _ (j outside : Jumps) (bs : List Target) where
  abbrev with_both : List Target → List Target → Jumps
  with_both bs cs = record { breaks = bs; continues = cs }

  pub loop_left : (own : List Text) (next past : ℕ) (cs ds : List Target) → j ≡ inside (a_loop (texts_view own) next past) outside → bs ≡ drop 1 j.breaks → cs ≡ drop 1 j.continues → ds ≡ drop (length own) cs → with_both bs ds ≡ outside
  loop_left own next past cs ds e hb hc hd =
      ap (λ (b : List Target). with_both b ds) (hb ∙ ap (λ (j : Jumps). drop 1 j.breaks) e)
      ∙ ap (with_both outside.breaks) (hd ∙ ap (λ (n : ℕ). drop n cs) (sym (texts_count own)) ∙ ap (drop (length (texts_view own))) (hc ∙ ap (λ (j : Jumps). drop 1 j.continues) e) ∙ all_closed (texts_view own) next outside.continues)

  pub named_left : (ns : List Text) (past : ℕ) → j ≡ inside (a_named (texts_view ns) past) outside → bs ≡ drop (length ns) j.breaks → with_both bs j.continues ≡ outside
  named_left ns past e hb =
      ap (λ (b : List Target). with_both b j.continues) (hb ∙ ap (λ (n : ℕ). drop n j.breaks) (sym (texts_count ns)) ∙ ap (λ (j : Jumps). drop (length (texts_view ns)) j.breaks) e ∙ all_closed (texts_view ns) past outside.breaks)
      ∙ ap (λ (j : Jumps). with_both outside.breaks j.continues) e

-- what holds whatever the last call gave
pub held : {E : Type 0} (r : Result (Unit {0}) E) (j k : Jumps) → j ≡ k → OnOk r (j ≡ k)
held (Ok u) j k e = e
held (Err e) j k h = tt
