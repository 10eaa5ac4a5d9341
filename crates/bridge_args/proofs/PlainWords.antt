-- Words of which none begins with a hyphen: the first is the command's name, and the others are its operands.
use Rattle.std.proofs.Common.{◌≡◌, ◌∙◌, ◌==◌, ◌++◌, refl, sym, ap, ap₂, true, false, cond, Bool, ℕ, List, [], ◌∷◌, Some, None, codes, fold, append_assoc}
use Rattle.std.specs.List.{list_all}
use Rattle.clap.specs.Walk.{Held, Row, Text, Walk, idle, positional, walk_from, nothing_held, settled, walked, finished}
use Rattle.clap.specs.Simple.{Shape, built}
use Rattle.clap.specs.Kinds.{Kinds, or_else}
use Rattle.clap.specs.Faults.{check_fault, defaults_fault, level_fault, settle_fault, turn_fault, walk_fault}
use Rattle.clap.specs.declared.builder.value_parser.ValueParser.TheVariants as vp
use Rattle.clap.specs.Values.{reading_of}
use Rattle.clap.specs.declared.parser.matches.ValueSource.TheVariants.{CommandLine}
use Rattle.clap.proofs.WalkLemmas.{both as and-true}
use Rattle.clap.proofs.OnLiterals.{clap_on_literals}
use Rattle.clap.proofs.FaultLemmas.{leaf_fault}
use Rattle.bridge_lang.specs.Words.{given_in, asked_in, asked_by, asked, unless_faulty}
use Rattle.bridge_lang.specs.App.{bridge_app, faults_of, rows_read}

abbrev pub shape : Shape
unfolding bridge_app
shape = (built bridge_app).top

abbrev pub is_plain : Text → Bool
is_plain [] = true
is_plain (x ∷ xs) = cond (x == 45) false true

abbrev pub row : Text → List Text → Row
row id values = record { id = id; values = values; count = None; source = Some CommandLine; reading = reading_of vp.String }

abbrev pub operand_rows : List Text → List Row
operand_rows [] = []
operand_rows (x ∷ xs) = row (codes "operands") (x ∷ xs) ∷ []

-- where the walk stands after the command's name
abbrev pub after_name : Text → Walk
after_name name = record {
  held = record { rows = []; pending = Some (codes "command", name ∷ []); skip = 0 };
  waiting = idle;
  position = 2;
  is_trailing = false;
  stopped = None;
}

-- and after an operand that follows those of `done`
abbrev pub after_operand : Text → List Text → Text → Walk
after_operand name done last = record {
  held = record {
    rows = row (codes "command") (name ∷ []) ∷ operand_rows done;
    pending = Some (codes "operands", last ∷ []);
    skip = 0;
  };
  waiting = positional;
  position = 2;
  is_trailing = false;
  stopped = None;
}

is_no : (b : Bool) → cond b false true ≡ true → b ≡ false
is_no false h = refl
is_no true h = sym h

pub not_hyphen : (x : ℕ) → cond (x == 45) false true ≡ true → (x == 45) ≡ false
not_hyphen x h = is_no (x == 45) h

pub name_step : (word : Text) → is_plain word ≡ true → walked shape.rules [] (walk_from nothing_held) word ≡ after_name word
unfolding bridge_app clap_on_literals
name_step [] h = refl
name_step (x ∷ xs) h = let e = not_hyphen x h in rw (e, e) refl

pub first_step : (name word : Text) → is_plain word ≡ true → walked shape.rules [] (after_name name) word ≡ after_operand name [] word
unfolding bridge_app clap_on_literals
first_step name [] h = refl
first_step name (x ∷ xs) h = let e = not_hyphen x h in rw (e, e) refl

pub next_step : (name : Text) (done : List Text) (last word : Text) → is_plain word ≡ true
    → walked shape.rules [] (after_operand name done last) word ≡ after_operand name (done ++ last ∷ []) word
unfolding bridge_app clap_on_literals
next_step name [] last [] h = refl
next_step name (d ∷ ds) last [] h = refl
next_step name [] last (x ∷ xs) h = let e = not_hyphen x h in rw (e, e) refl
next_step name (d ∷ ds) last (x ∷ xs) h = let e = not_hyphen x h in rw (e, e) refl

pub name_fault : (word : Text) → is_plain word ≡ true → turn_fault shape [] (walk_from nothing_held) word ≡ []
unfolding bridge_app clap_on_literals
name_fault [] h = refl
name_fault (x ∷ xs) h = let e = not_hyphen x h in rw (e, e) refl

pub first_fault : (name word : Text) → is_plain word ≡ true → turn_fault shape [] (after_name name) word ≡ []
unfolding bridge_app clap_on_literals
first_fault name [] h = refl
first_fault name (x ∷ xs) h = let e = not_hyphen x h in rw (e, e) refl

pub next_fault : (name : Text) (done : List Text) (last word : Text) → is_plain word ≡ true → turn_fault shape [] (after_operand name done last) word ≡ []
unfolding bridge_app clap_on_literals
next_fault name done last [] h = refl
next_fault name done last (x ∷ xs) h = let e = not_hyphen x h in rw (e, e) refl

-- ---- all the words

steps : Walk → List Text → Walk
steps w words = fold (walked shape.rules []) w words

rest_walk : (name : Text) (done : List Text) (last : Text) (rest : List Text) → list_all is_plain rest ≡ true
    → (d : List Text) × (l : Text) × (fold (walked shape.rules []) (after_operand name done last) rest ≡ after_operand name d l) × (d ++ l ∷ [] ≡ done ++ last ∷ rest)
rest_walk name done last [] h = (done, last, refl, refl)
rest_walk name done last (w ∷ ws) h =
    let p = and-true (is_plain w) (list_all is_plain ws) h in
    let joined : (done ++ last ∷ []) ++ w ∷ ws ≡ done ++ last ∷ (w ∷ ws) = rw append_assoc refl in
    let r = rest_walk name (done ++ last ∷ []) w ws p.1 in (
      r.0,
      r.1,
      ap (λ (s : Walk). fold (walked shape.rules []) s ws) (next_step name done last w p.0) ∙ r.2,
      r.3 ∙ joined,
    )

rest_faults : (name : Text) (done : List Text) (last : Text) (rest : List Text) → list_all is_plain rest ≡ true
    → walk_fault shape [] (after_operand name done last) rest ≡ []
unfolding walk_fault
rest_faults name done last [] h = refl
rest_faults name done last (w ∷ ws) h =
    let p = and-true (is_plain w) (list_all is_plain ws) h in
    ap₂ or_else (next_fault name done last w p.0)
    (ap (λ (s : Walk). walk_fault shape [] s ws) (next_step name done last w p.0) ∙ rest_faults name (done ++ last ∷ []) w ws p.1)

-- after the words
abbrev pub end_fault : Held → Kinds
end_fault end = or_else (settle_fault shape.rules false end)
    (or_else (defaults_fault (settled shape.rules end).rows shape.rules) (check_fault shape (finished shape.rules end) false))

end_passes : (name : Text) (d : List Text) (l : Text) → end_fault (after_operand name d l).held ≡ []
unfolding bridge_app clap_on_literals
end_passes name [] l = refl
end_passes name (x ∷ xs) l = refl

end_rows : (name : Text) (d : List Text) (l : Text)
    → finished shape.rules (after_operand name d l).held ≡ row (codes "command") (name ∷ []) ∷ operand_rows (d ++ l ∷ [])
unfolding bridge_app clap_on_literals
end_rows name [] l = refl
end_rows name (x ∷ xs) l = refl

name_alone_passes : (name : Text) → end_fault (after_name name).held ≡ []
unfolding bridge_app clap_on_literals
name_alone_passes name = refl

name_alone_rows : (name : Text) → finished shape.rules (after_name name).held ≡ row (codes "command") (name ∷ []) ∷ []
unfolding bridge_app clap_on_literals
name_alone_rows name = refl

-- the level's faults are those of the walk and those of its end
pub level : (words : List Text) (end : Held) → walk_fault shape [] (walk_from nothing_held) words ≡ []
    → (fold (walked shape.rules []) (walk_from nothing_held) words).held ≡ end → end_fault end ≡ [] → level_fault shape [] nothing_held words false [] ≡ []
unfolding bridge_app
level words end walk_passes is passes = ap₂ or_else walk_passes (ap end_fault is ∙ passes)

record Reads (words : List Text) (rows : List Row) : Type 0 where
  faults : level_fault shape [] nothing_held words false [] ≡ []
  rows_are : finished shape.rules (fold (walked shape.rules []) (walk_from nothing_held) words).held ≡ rows

plain_read : (name : Text) (operands : List Text) → is_plain name ≡ true → list_all is_plain operands ≡ true
    → Reads (name ∷ operands) (row (codes "command") (name ∷ []) ∷ operand_rows operands)
unfolding walk_fault
plain_read name [] h hs =
    let at : fold (walked shape.rules []) (walk_from nothing_held) (name ∷ []) ≡ after_name name = name_step name h in
    record {
      faults = level (name ∷ []) (after_name name).held (ap₂ or_else (name_fault name h) refl) (ap (λ (s : Walk). s.held) at) (name_alone_passes name);
      rows_are = ap (λ (s : Walk). finished shape.rules s.held) at ∙ name_alone_rows name;
    }
plain_read name (o ∷ os) h hs =
    let p = and-true (is_plain o) (list_all is_plain os) hs in
    let one = name_step name h in
    let two = first_step name o p.0 in
    let r = rest_walk name [] o os p.1 in
    let at : fold (walked shape.rules []) (walk_from nothing_held) (name ∷ (o ∷ os)) ≡ after_operand name r.0 r.1 =
    ap (λ (s : Walk). fold (walked shape.rules []) (walked shape.rules [] s o) os) one ∙ ap (λ (s : Walk). fold (walked shape.rules []) s os) two ∙ r.2 in
    let past_two : walk_fault shape [] (walked shape.rules [] (after_name name) o) os ≡ [] =
    ap (λ (s : Walk). walk_fault shape [] s os) two ∙ rest_faults name [] o os p.1 in
    let past_one : walk_fault shape [] (walked shape.rules [] (walk_from nothing_held) name) (o ∷ os) ≡ [] =
    ap (λ (s : Walk). walk_fault shape [] s (o ∷ os)) one ∙ ap₂ or_else (first_fault name o p.0) past_two in
    record {
      faults = level (name ∷ (o ∷ os)) (after_operand name r.0 r.1).held (ap₂ or_else (name_fault name h) past_one) (ap (λ (s : Walk). s.held) at)
          (end_passes name r.0 r.1);
      rows_are = ap (λ (s : Walk). finished shape.rules s.held) at ∙ end_rows name r.0 r.1
          ∙ ap (λ (l : List Text). row (codes "command") (name ∷ []) ∷ operand_rows l) r.3;
    }

pub faults_are : (program : Text) (words : List Text) → faults_of (program ∷ words) ≡ level_fault shape [] nothing_held words false []
unfolding faults_of bridge_app
faults_are program words = leaf_fault (built bridge_app) nothing_held words refl

pub rows_are_read : (program : Text) (words : List Text)
    → rows_read (program ∷ words) ≡ finished shape.rules (fold (walked shape.rules []) (walk_from nothing_held) words).held
unfolding rows_read bridge_app
rows_are_read program words = refl

given_plain : (name : Text) (operands : List Text) → asked_in (row (codes "command") (name ∷ []) ∷ operand_rows operands)
    ≡ asked_by name (record { operands = operands; heap = None; steps = None })
unfolding asked_in given_in
given_plain name [] = refl
given_plain name (o ∷ os) = refl

-- what words ask for of which none begins with a hyphen
pub plain_asked : (program name : Text) (operands : List Text) → is_plain name ≡ true → list_all is_plain operands ≡ true
    → asked (program ∷ name ∷ operands) ≡ asked_by name (record { operands = operands; heap = None; steps = None })
unfolding asked
plain_asked program name operands h hs =
    let r = plain_read name operands h hs in
    ap₂ unless_faulty (faults_are program (name ∷ operands) ∙ r.faults) (ap asked_in (rows_are_read program (name ∷ operands) ∙ r.rows_are))
    ∙ given_plain name operands
