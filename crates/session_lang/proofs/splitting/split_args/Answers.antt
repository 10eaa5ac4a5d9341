use Rattle.std.proofs.Common.{◌≡◌, Bool, List, [], ◌∷◌, ◌++◌, refl, sym, ap, ◌∙◌, arith, append-nil}
use Rattle.std.proofs.lemmas.List.{drop_all}
use Rattle.std.proofs.Common.{ℤ}
use Rattle.session_lang.specs.CallingForms.{split_args}
use Rattle.session_lang.proofs.splitting.split_args.Goals as goal

-- where no argument is left, no word is
none_left : (marks : List Bool) → split_args marks [] ≡ []
none_left [] = refl
none_left (mark ∷ marks) = refl

-- the words of all arguments, once none is left
at_end : (words args all : List ℤ) (marks : List Bool) → args ≡ [] → words ++ split_args marks args ≡ all → words ≡ all
at_end words args all marks none so_far =
    sym (append-nil words) ∙ ap (λ more. words ++ more) (sym (ap (split_args marks) none ∙ none_left marks)) ∙ so_far

pub returns : goal.returns
returns c =
    c.from_vec.ensures
    ∙ at_end _ _ _ _ (drop_all c.loop-i.i c.args.args.now (omega arith)) c.loop-i.invariant
