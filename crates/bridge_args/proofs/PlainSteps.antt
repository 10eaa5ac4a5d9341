-- `--steps V` and `--steps=V` after operands that begin with no hyphen.
use Rattle.std.proofs.Common.{◌≡◌, ◌∙◌, ◌++◌, refl, ap, ap₂, true, false, List, [], ◌∷◌, Some, None, codes, fold, append_assoc}
use Rattle.std.specs.List.{list_all}
use Rattle.clap.specs.Walk.{Row, Text, Walk, idle, finished, option, walk_from, nothing_held, walked}
use Rattle.clap.specs.Kinds.{or_else}
use Rattle.clap.specs.Faults.{turn_fault, walk_fault}
use Rattle.clap.proofs.WalkLemmas.{both as and-true}
use Rattle.clap.proofs.OnLiterals.{clap_on_literals}
use Rattle.bridge_lang.specs.App.{bridge_app}
use Rattle.bridge_lang.specs.Words.{given_in, asked_in, asked_by, asked, unless_faulty}
use Rattle.bridge_args.proofs.PlainWords.{shape, is_plain, row, operand_rows, after_name, after_operand, name_step, first_step, next_step, name_fault, first_fault, next_fault, end_fault, level, faults_are, rows_are_read, not_hyphen}

record Walked (name : Text) (done : List Text) (last : Text) (rest : List Text) : Type 0 where
  front : List Text
  final : Text
  all : front ++ final ∷ [] ≡ done ++ last ∷ rest
  at : (tail : List Text) → fold (walked shape.rules []) (after_operand name done last) (rest ++ tail) ≡ fold (walked shape.rules []) (after_operand name front final) tail
  faults : (tail : List Text) → walk_fault shape [] (after_operand name done last) (rest ++ tail) ≡ walk_fault shape [] (after_operand name front final) tail

walked_on : (name : Text) (done : List Text) (last : Text) (rest : List Text) → list_all is_plain rest ≡ true → Walked name done last rest
unfolding walk_fault
walked_on name done last [] h = record { front = done; final = last; all = refl; at = λ tail. refl; faults = λ tail. refl }
walked_on name done last (w ∷ ws) h =
    let p = and-true (is_plain w) (list_all is_plain ws) h in
    let joined : (done ++ last ∷ []) ++ w ∷ ws ≡ done ++ last ∷ (w ∷ ws) = rw append_assoc refl in
    let r = walked_on name (done ++ last ∷ []) w ws p.1 in
    record {
      front = r.front;
      final = r.final;
      all = r.all ∙ joined;
      at = λ tail. ap (λ (s : Walk). fold (walked shape.rules []) s (ws ++ tail)) (next_step name done last w p.0) ∙ r.at tail;
      faults = λ tail. ap₂ or_else (next_fault name done last w p.0) (ap (λ (s : Walk). walk_fault shape [] s (ws ++ tail)) (next_step name done last w p.0))
          ∙ r.faults tail;
    }

-- after `--steps=V`: it is used at once
abbrev after_steps : Text → List Text → Text → Walk
after_steps name all v = record {
  held = record {
    rows = row (codes "command") (name ∷ []) ∷ (operand_rows all ++ row (codes "steps") (v ∷ []) ∷ []);
    pending = None;
    skip = 0;
  };
  waiting = idle;
  position = 2;
  is_trailing = false;
  stopped = None;
}

equals_step : (name : Text) (d : List Text) (l v : Text) → walked shape.rules [] (after_operand name d l) (codes "--steps=" ++ v) ≡ after_steps name (d ++ l ∷ []) v
unfolding bridge_app clap_on_literals
equals_step name [] l v = refl
equals_step name (x ∷ xs) l v = refl

equals_fault : (name : Text) (d : List Text) (l v : Text) → turn_fault shape [] (after_operand name d l) (codes "--steps=" ++ v) ≡ []
unfolding bridge_app clap_on_literals
equals_fault name [] l v = refl
equals_fault name (x ∷ xs) l v = refl

-- after `--steps`: it waits for its value
abbrev waits_for_steps : Text → List Text → Walk
waits_for_steps name all = record {
  held = record { rows = row (codes "command") (name ∷ []) ∷ operand_rows all; pending = Some (codes "steps", []); skip = 0 };
  waiting = option (codes "steps");
  position = 2;
  is_trailing = false;
  stopped = None;
}

-- and with its value, which is not used yet
abbrev has_steps : Text → List Text → Text → Walk
has_steps name all v = record {
  held = record { rows = row (codes "command") (name ∷ []) ∷ operand_rows all; pending = Some (codes "steps", v ∷ []); skip = 0 };
  waiting = idle;
  position = 2;
  is_trailing = false;
  stopped = None;
}

word_step : (name : Text) (d : List Text) (l : Text) → walked shape.rules [] (after_operand name d l) (codes "--steps") ≡ waits_for_steps name (d ++ l ∷ [])
unfolding bridge_app clap_on_literals
word_step name [] l = refl
word_step name (x ∷ xs) l = refl

value_step : (name : Text) (all : List Text) (v : Text) → is_plain v ≡ true → walked shape.rules [] (waits_for_steps name all) v ≡ has_steps name all v
unfolding bridge_app clap_on_literals
value_step name all [] h = refl
value_step name all (x ∷ xs) h = let e = not_hyphen x h in rw (e, e) refl

word_fault_is : (name : Text) (d : List Text) (l : Text) → turn_fault shape [] (after_operand name d l) (codes "--steps") ≡ []
unfolding bridge_app clap_on_literals
word_fault_is name [] l = refl
word_fault_is name (x ∷ xs) l = refl

value_fault : (name : Text) (all : List Text) (v : Text) → is_plain v ≡ true → turn_fault shape [] (waits_for_steps name all) v ≡ []
unfolding bridge_app clap_on_literals
value_fault name all [] h = refl
value_fault name all (x ∷ xs) h = let e = not_hyphen x h in rw (e, e) refl

-- the matches at the end
abbrev steps_rows : Text → List Text → Text → List Row
steps_rows name all v = row (codes "command") (name ∷ []) ∷ (operand_rows all ++ row (codes "steps") (v ∷ []) ∷ [])

equals_end : (name : Text) (all : List Text) (v : Text) → (end_fault (after_steps name all v).held ≡ []) × (finished shape.rules (after_steps name all v).held ≡ steps_rows name all v)
unfolding bridge_app clap_on_literals
equals_end name [] v = (refl, refl)
equals_end name (x ∷ xs) v = (refl, refl)

word_end : (name : Text) (all : List Text) (v : Text) → (end_fault (has_steps name all v).held ≡ []) × (finished shape.rules (has_steps name all v).held ≡ steps_rows name all v)
unfolding bridge_app clap_on_literals
word_end name [] v = (refl, refl)
word_end name (x ∷ xs) v = (refl, refl)

given_steps : (name : Text) (all : List Text) (v : Text) → asked_in (steps_rows name all v) ≡ asked_by name (record { operands = all; heap = None; steps = Some v })
unfolding asked_in given_in
given_steps name [] v = refl
given_steps name (x ∷ xs) v = refl

abbrev start : Walk
start = walk_from nothing_held

-- what is asked for, from where the walk stands after the words `tail` that follow the operands
ends_in : (program name o : Text) (os tail : List Text) (v : Text) (r : Walked name [] o os) (end : Walk) → is_plain name ≡ true → is_plain o ≡ true
    → walk_fault shape [] (after_operand name r.front r.final) tail ≡ []
    → fold (walked shape.rules []) (after_operand name r.front r.final) tail ≡ end
    → (end_fault end.held ≡ []) × (finished shape.rules end.held ≡ steps_rows name (r.front ++ r.final ∷ []) v)
    → asked (program ∷ name ∷ o ∷ (os ++ tail)) ≡ asked_by name (record { operands = o ∷ os; heap = None; steps = Some v })
unfolding asked walk_fault
ends_in program name o os tail v r end h ho none stands ends =
    let one = name_step name h in
    let two = first_step name o ho in
    let words : List Text = name ∷ (o ∷ (os ++ tail)) in
    let at : fold (walked shape.rules []) start (name ∷ (o ∷ (os ++ tail))) ≡ end =
    ap (λ (s : Walk). fold (walked shape.rules []) (walked shape.rules [] s o) (os ++ tail)) one
    ∙ ap (λ (s : Walk). fold (walked shape.rules []) s (os ++ tail)) two ∙ r.at tail ∙ stands in
    let past_two : walk_fault shape [] (walked shape.rules [] (after_name name) o) (os ++ tail) ≡ [] =
    ap (λ (s : Walk). walk_fault shape [] s (os ++ tail)) two ∙ r.faults tail ∙ none in
    let past_one : walk_fault shape [] (walked shape.rules [] start name) (o ∷ (os ++ tail)) ≡ [] =
    ap (λ (s : Walk). walk_fault shape [] s (o ∷ (os ++ tail))) one ∙ ap₂ or_else (first_fault name o ho) past_two in
    let faults = level (name ∷ (o ∷ (os ++ tail))) end.held (ap₂ or_else (name_fault name h) past_one) (ap (λ (s : Walk). s.held) at) ends.0 in
    let rows = ap (λ (s : Walk). finished shape.rules s.held) at ∙ ends.1 ∙ ap (λ (l : List Text). steps_rows name l v) r.all in
    ap₂ unless_faulty (faults_are program (name ∷ (o ∷ (os ++ tail))) ∙ faults) (ap asked_in (rows_are_read program (name ∷ (o ∷ (os ++ tail))) ∙ rows))
    ∙ given_steps name (o ∷ os) v

pub steps_by_equals : (program name o : Text) (os : List Text) (v : Text) → is_plain name ≡ true → is_plain o ≡ true → list_all is_plain os ≡ true
    → asked (program ∷ name ∷ o ∷ (os ++ (codes "--steps=" ++ v) ∷ [])) ≡ asked_by name (record { operands = o ∷ os; heap = None; steps = Some v })
unfolding walk_fault
steps_by_equals program name o os v h ho hs =
    let r = walked_on name [] o os hs in
    ends_in program name o os ((codes "--steps=" ++ v) ∷ []) v r (after_steps name (r.front ++ r.final ∷ []) v) h ho
    (ap₂ or_else (equals_fault name r.front r.final v) refl) (equals_step name r.front r.final v) (equals_end name (r.front ++ r.final ∷ []) v)

pub steps_by_word : (program name o : Text) (os : List Text) (v : Text) → is_plain name ≡ true → is_plain o ≡ true → list_all is_plain os ≡ true → is_plain v ≡ true
    → asked (program ∷ name ∷ o ∷ (os ++ codes "--steps" ∷ v ∷ [])) ≡ asked_by name (record { operands = o ∷ os; heap = None; steps = Some v })
unfolding walk_fault
steps_by_word program name o os v h ho hs hv =
    let r = walked_on name [] o os hs in
    let all : List Text = r.front ++ r.final ∷ [] in
    let first : walked shape.rules [] (after_operand name r.front r.final) (codes "--steps") ≡ waits_for_steps name (r.front ++ r.final ∷ []) = word_step name r.front r.final in
    let second = value_step name (r.front ++ r.final ∷ []) v hv in
    ends_in program name o os (codes "--steps" ∷ v ∷ []) v r (has_steps name (r.front ++ r.final ∷ []) v) h ho
    (ap₂ or_else (word_fault_is name r.front r.final)
    (ap (λ (s : Walk). walk_fault shape [] s (v ∷ [])) first ∙ ap₂ or_else (value_fault name (r.front ++ r.final ∷ []) v hv) refl))
    (ap (λ (s : Walk). walked shape.rules [] s v) first ∙ second)
    (word_end name (r.front ++ r.final ∷ []) v)
