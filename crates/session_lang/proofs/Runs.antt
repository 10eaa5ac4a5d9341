-- Both halves of a simulation from one of the two runs.
use Rattle.std.proofs.Common.{◌≡◌, ℕ, ◌<◌, ◌≤◌, Option, Some, None, is_some, refl, ap, ⊎_elim, arith}
use Rattle.std.proofs.lemmas.Bool.{cases_lt}
use Rattle.session_lang.specs.Observation.{EndPlain}
use Rattle.session_lang.specs.Simulation.{Session, IsMonotone, Comparison, SourceIsBelow, TargetIsBelow}
use Rattle.session_lang.specs.Laws.{KeepsOrder, IsMatched, MatchedSessionsSimulate, IsFollowed, FollowedSessionsSimulate}
use Rattle.session_lang.proofs.BelowLaws.{monotone_sessions_grow}
use Rattle.session_lang.proofs.Sides.{source_ended, source_same, target_ended, target_same, comparisons_go_with_below}

module _ (by : Comparison) (keeps : KeepsOrder by) (source target : Session) where
  module _ (grows : IsMonotone target) (bound : ℕ → ℕ) (matched : (n : ℕ) → IsMatched by source target bound n) where
    matched_no_more : (n : ℕ) → TargetIsBelow by (target n) (source n)
    matched_no_more n = ⊎_elim past within (cases_lt (matched n).budget n)
      where
        within : n ≤ (matched n).budget → TargetIsBelow by (target n) (source n)
        within le =
            (comparisons_go_with_below by keeps).less_of_target (target n) (target (matched n).budget) (source n)
            (monotone_sessions_grow target grows n (matched n).budget le) (matched n).no_more

        past : (matched n).budget < n → TargetIsBelow by (target n) (source n)
        past lt = go (source n).end refl
          where
            go : (o : Option EndPlain) → (source n).end ≡ o → TargetIsBelow by (target n) (source n)
            go None is = let le : n ≤ (matched n).budget = (matched n).goes_on (ap is_some is) in absurd (omega arith)
            go (Some e) is =
                target_same by (source n) (target n)
                (source_ended by (source n) (target n) e
                ((comparisons_go_with_below by keeps).more_of_target (source n) (target (matched n).budget) (target n) (matched n).no_less (monotone_sessions_grow target grows (matched n).budget n (omega arith)))
                is)

    matched_no_less : (n : ℕ) → SourceIsBelow by (source n) (target (bound n))
    matched_no_less n =
        (comparisons_go_with_below by keeps).more_of_target (source n) (target (matched n).budget) (target (bound n)) (matched n).no_less
        (monotone_sessions_grow target grows (matched n).budget (bound n) (matched n).within)

  module _ (grows : IsMonotone source) (worth : ℕ → ℕ) (followed : (n : ℕ) → IsFollowed by source target worth n) where
    followed_no_less : (m : ℕ) → SourceIsBelow by (source m) (target (worth m))
    followed_no_less m = go (target (worth m)).end refl
      where
        low : ℕ
        low = (followed (worth m)).low

        high : ℕ
        high = (followed (worth m)).high

        go : (o : Option EndPlain) → (target (worth m)).end ≡ o → SourceIsBelow by (source m) (target (worth m))
        go None is =
            (comparisons_go_with_below by keeps).less_of_source (source m) (source (followed (worth m)).low) (target (worth m))
            (monotone_sessions_grow source grows m (followed (worth m)).low ((followed (worth m)).goes_on (ap is_some is) m (omega arith)))
            (followed (worth m)).no_less
        go (Some e) is = ⊎_elim past within (cases_lt (followed (worth m)).high m)
          where
            within : m ≤ (followed (worth m)).high → SourceIsBelow by (source m) (target (worth m))
            within le =
                (comparisons_go_with_below by keeps).less_of_source (source m) (source (followed (worth m)).high) (target (worth m))
                (monotone_sessions_grow source grows m (followed (worth m)).high le)
                (source_same by (source (followed (worth m)).high) (target (worth m)) (target_ended by (target (worth m)) (source (followed (worth m)).high) e (followed (worth m)).no_more is))

            past : (followed (worth m)).high < m → SourceIsBelow by (source m) (target (worth m))
            past lt =
                source_same by (source m) (target (worth m))
                (target_ended by (target (worth m)) (source m) e
                ((comparisons_go_with_below by keeps).more_of_source (target (worth m)) (source (followed (worth m)).high) (source m) (followed (worth m)).no_more (monotone_sessions_grow source grows (followed (worth m)).high m (omega arith)))
                is)

pub matched_sessions_simulate : MatchedSessionsSimulate
matched_sessions_simulate by keeps source target grows bound matched = (
  record {
    nothing_lost = λ n. ((matched n).budget, (matched n).no_less);
    nothing_new = λ m. (m, matched_no_more by keeps source target grows bound matched m);
  },
  matched_no_less by keeps source target grows bound matched,
  matched_no_more by keeps source target grows bound matched,
)

pub followed_sessions_simulate : FollowedSessionsSimulate
followed_sessions_simulate by keeps source target grows worth followed = (
  record {
    nothing_lost = λ m. (worth m, followed_no_less by keeps source target grows worth followed m);
    nothing_new = λ n. ((followed n).high, (followed n).no_more);
  },
  followed_no_less by keeps source target grows worth followed,
)
