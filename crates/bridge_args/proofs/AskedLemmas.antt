-- From the matches to what is asked for.
use Rattle.std.proofs.Common.{◌≡◌, ◌≢◌, ◌∙◌, refl, sym, ap, ap₂, subst, List, [], ◌∷◌, Option, Some, None, option_map, codes, Result, Ok, Err, IsErrAnd}
use Rattle.std.specs.Prelude.{option_and_then}
use Rattle.clap.specs.Walk.{Text, rows_of, all_of, first_of}
use Rattle.clap.specs.Matches.{first_value, matched_of, raw_values}
use Rattle.clap.specs.Kinds.{Kinds}
use Rattle.clap.specs.declared.parser.matches.Found.{Found}
use Rattle.clap.proofs.WalkLemmas.{first_value-rows, raw_values-rows}
use Rattle.bridge_lang.specs.App.{faults_of, rows_read}
use Rattle.bridge_lang.specs.Words.{GivenTexts, given_in, asked_in, asked_by, asked, texts_or_none, unless_faulty}
use Rattle.bridge_args.specs.Answer.{Answers, given_texts, asked_view, text_of, texts_of}
use Rattle.bridge_args.specs.declared.command.Given.{Given}
use Rattle.bridge_args.specs.declared.asked.Asked.{Asked as Wanted}
use Rattle.bridge_lang.specs.Command.{Asked}
use Rattle.bridge_args.specs.declared.fault.WordsFault.{WordsFault}
use Rattle.bridge_args.specs.declared.fault.WordsFault.TheVariants.{Usage, Memory}

texts_made : List Text → Option Text → Option Text → GivenTexts
texts_made operands heap steps = record { operands = operands; heap = heap; steps = steps }

pub given_is : (f : Found) (g : Given) → option_map (λ s. texts_of s.now) g.operands ≡ option_map raw_values (matched_of f (codes "operands"))
    → text_of g.heap ≡ first_value f (codes "heap") → text_of g.steps ≡ first_value f (codes "steps") → given_texts g ≡ given_in (rows_of f)
unfolding given_in texts_made
given_is f g operands heap steps =
    let o = ap texts_or_none (operands ∙ raw_values-rows f (codes "operands")) in
    let h = heap ∙ first_value-rows f (codes "heap") in
    let s = steps ∙ first_value-rows f (codes "steps") in
    ap₂ (λ (x : List Text) (y : Option Text). texts_made x y (text_of g.steps)) o h
    ∙ ap (texts_made (texts_or_none (all_of (codes "operands") (rows_of f))) (first_of (codes "heap") (rows_of f))) s

abbrev named_in : GivenTexts → Option Text → Option Asked
named_in given = option_and_then (λ name. asked_by name given)

-- what the words name, where `clap` reads them
read_is : (words : List Text) (f : Found) → faults_of words ≡ [] → rows_of f ≡ rows_read words
    → asked words ≡ named_in (given_in (rows_of f)) (first_value f (codes "command"))
unfolding asked asked_in
read_is words f none rows = ap (λ k. unless_faulty k (asked_in (rows_read words))) none ∙ ap asked_in (sym rows)
    ∙ ap (named_in (given_in (rows_of f))) (sym (first_value-rows f (codes "command")))

pub found_is : (words : List Text) (f : Found) (name : Text) (given : GivenTexts) → faults_of words ≡ [] → rows_of f ≡ rows_read words
    → Some name ≡ first_value f (codes "command") → given ≡ given_in (rows_of f) → asked words ≡ asked_by name given
found_is words f name given none rows named is =
    read_is words f none rows ∙ ap₂ named_in (sym is) (sym named)

pub none_is : (words : List Text) (f : Found) → faults_of words ≡ [] → rows_of f ≡ rows_read words
    → None ≡ first_value f (codes "command") → asked words ≡ None
none_is words f none rows named = read_is words f none rows ∙ ap (named_in (given_in (rows_of f))) (sym named)

faulty_none : (k : Kinds) (found : Option Asked) → k ≢ [] → unless_faulty k found ≡ None
faulty_none [] found some = absurd (some refl)
faulty_none (k ∷ ks) found some = refl

refused_is : (words : List Text) → faults_of words ≢ [] → asked words ≡ None
unfolding asked
refused_is words some = faulty_none (faults_of words) (asked_in (rows_read words)) some

pub refused_answer : (words : List Text) (e : WordsFault) → (e ≡ Usage → faults_of words ≢ []) → Answers asked_view (asked words) (Err e)
refused_answer words Usage some = refused_is words (some refl)
refused_answer words Memory some = tt

pub same_answer : (words : List Text) (found : Option Asked) (r : Result Wanted WordsFault) → asked words ≡ found → Answers asked_view found r → Answers asked_view (asked words) r
same_answer words found r is answers = let P : Option Asked → Type 0 = λ o. Answers asked_view o r in subst P (sym is) answers

pub passed_up : (words : List Text) (e : WordsFault) (r : Result Wanted WordsFault) → IsErrAnd r (λ y. y ≡ e) → (e ≡ Usage → faults_of words ≢ [])
    → Answers asked_view (asked words) r
passed_up words e (Ok found) is some = absurd is
passed_up words e (Err y) is some = refused_answer words y (λ usage. some (sym is ∙ usage))
