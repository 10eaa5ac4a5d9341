-- A sink that gains one thing after the other.
use Rattle.std.proofs.Common.{◌≡◌, ℕ, ◌+◌, ◌≤◌, inl, inr, List, [], ◌∷◌, ◌++◌, length, take, refl, subst, ap, ◌∙◌, sym, arith, append_assoc}
use Rattle.std.specs.Prelude.{Option, Some, None, Result, Ok, Err, OnErr}
use Rattle.std.proofs.lemmas.List.{length-append, take-append-le}
use Rattle.std.proofs.Math.Seq.{take-append-add}
use Rattle.bridge_io.specs.Outside.{Rose, appended}
use Rattle.bridge_lang.specs.Sinks.{Seen, Gains, GainsFront}

-- what rose after a while in which it didn't fall rose over all
pub rose_since : (old between new : ℕ) → old ≤ between → Rose between new → Rose old new
rose_since old between new h rose = elim rose [ inl less ↦ inl (omega arith) | inr last ↦ inr last ]

pub appended_twice : (told : Option (List ℕ)) (a b : List ℕ) → appended (appended told a) b ≡ appended told (a ++ b)
appended_twice None a b = refl
appended_twice (Some before) a b = ap Some (append_assoc before a b)

pub gains_both : (a b : List ℕ) (s t u : Seen) → Gains a s t → Gains b t u → Gains (a ++ b) s u
gains_both a b s t u first second = second ∙ ap (λ told. appended told b) first ∙ appended_twice s.bytes a b

-- all of the first and a front of the second are a front of both
pub gains_then_front : (a b : List ℕ) (s t u : Seen) → Gains a s t → s.faults ≤ t.faults → GainsFront b t u → GainsFront (a ++ b) s u
gains_then_front a b s t u first kept second = record {
  count = length a + second.count;
  within = let w = second.within in omega (arith, length-append a b);
  gained = second.gained ∙ ap (λ told. appended told (take second.count b)) first
      ∙ appended_twice s.bytes a (take second.count b)
      ∙ ap (appended s.bytes) (sym (take-append-add a b second.count));
  failed = rose_since s.faults t.faults u.faults kept second.failed;
}

-- a front of the first is one of both
pub front_of_both : (a b : List ℕ) (s t : Seen) → GainsFront a s t → GainsFront (a ++ b) s t
front_of_both a b s t first = record {
  count = first.count;
  within = let w = first.within in omega (arith, length-append a b);
  gained = first.gained ∙ ap (appended s.bytes) (sym (take-append-le first.count a b first.within));
  failed = first.failed;
}

-- what holds anyway holds at an error
pub on_err : {T E P : Type 0} (r : Result T E) → P → OnErr r P
on_err (Ok value) holds = tt
on_err (Err fault) holds = holds

-- the words stand, and a front of the name
pub cut_in_name : (words name words' name' text : List ℕ) (s t u : Seen) → words' ≡ words → name' ≡ name → words ++ name ≡ text
    → Gains words' s t → s.faults ≤ t.faults → GainsFront name' t u → GainsFront (text ++ 10 ∷ []) s u
cut_in_name words name words' name' text s t u is_words is_name is_text first kept second =
    let joined : words' ++ name' ≡ text = cc in
    front_of_both text (10 ∷ []) s u (subst (λ bytes. GainsFront bytes s u) joined (gains_then_front words' name' s t u first kept second))

-- words and name stand, and a front of the line's end
pub cut_at_end : (words name words' name' text : List ℕ) (s t u v : Seen) → words' ≡ words → name' ≡ name → words ++ name ≡ text
    → Gains words' s t → s.faults ≤ t.faults → Gains name' t u → t.faults ≤ u.faults → GainsFront (10 ∷ []) u v → GainsFront (text ++ 10 ∷ []) s v
cut_at_end words name words' name' text s t u v is_words is_name is_text first kept second kept' third =
    let joined : words' ++ name' ≡ text = cc in
    gains_then_front text (10 ∷ []) s u v (subst (λ bytes. Gains bytes s u) joined (gains_both words' name' s t u first second)) (omega arith) third
