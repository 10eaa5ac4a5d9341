-- What `clap`'s clauses say of the command that is built.
use Rattle.std.proofs.Common.{◌≡◌, ◌∙◌, refl, sym, ap, subst, true, List, [], ⊎_elim}
use Rattle.clap.specs.Walk.{Text, rows_of}
use Rattle.clap.specs.Values.{kind_of}
use Rattle.clap.specs.Matches.{found_of}
use Rattle.clap.specs.Simple.{App, HasMatchesOf, is_simple, matches_of}
use Rattle.clap.specs.Kinds.{HasKind, Kinds}
use Rattle.clap.specs.Faults.{fault_of, is_simple_and_free}
use Rattle.clap.specs.declared.error.Error.{Error}
use Rattle.clap.specs.declared.error.kind.ErrorKind.TheVariants.{OutOfMemory}
use Rattle.clap.specs.declared.parser.matches.ArgMatches.{ArgMatches}
use Rattle.clap.proofs.OnLiterals.{clap_on_literals}
use Rattle.bridge_lang.specs.App.{bridge_app, faults_of, rows_read}

bridge_simple : is_simple bridge_app ≡ true
unfolding bridge_app clap_on_literals
bridge_simple = refl

bridge_free : is_simple_and_free bridge_app ≡ true
unfolding bridge_app clap_on_literals
bridge_free = refl

pub faults_here : (a : App) (words : List Text) → a ≡ bridge_app → fault_of a words ≡ faults_of words
unfolding faults_of
faults_here a words same = ap (λ (x : App). fault_of x words) same

pub rows_here : (a : App) (words : List Text) (m : ArgMatches) → a ≡ bridge_app → HasMatchesOf a words m → rows_of (found_of m) ≡ rows_read words
unfolding rows_read
rows_here a words m same has = (has (ap is_simple same ∙ bridge_simple)).0 ∙ ap (λ (x : App). matches_of x words) same

pub read_here : (a : App) (words : List Text) → a ≡ bridge_app → (is_simple_and_free a ≡ true → fault_of a words ≡ []) → faults_of words ≡ []
read_here a words same none = sym (faults_here a words same) ∙ none (ap is_simple_and_free same ∙ bridge_free)

no_kind : (kinds : Kinds) (e : Error) → HasKind kinds e → (kind_of e ≡ OutOfMemory → ⊥) → kinds ≡ [] → ⊥
no_kind kinds e has other none = let P : Kinds → Type 0 = λ k. HasKind k e in ⊎_elim other (λ among. absurd among) (subst P none has)

pub refused_here : (a : App) (words : List Text) (e : Error) → a ≡ bridge_app → (is_simple_and_free a ≡ true → HasKind (fault_of a words) e)
    → (kind_of e ≡ OutOfMemory → ⊥) → faults_of words ≡ [] → ⊥
refused_here a words e same has other none =
    no_kind (fault_of a words) e (has (ap is_simple_and_free same ∙ bridge_free)) other (faults_here a words same ∙ none)
