-- Ids that were seen, one more.
use Rattle.std.proofs.Common.{◌≡◌, ℕ, Bool, true, false, ◌||◌, List, [], ◌∷◌, Option, sym, ap, ◌∙◌}
use Rattle.std.specs.Prelude.{if◌then◌else◌}
use Rattle.std.specs.Str.{bytes_eq}
use Rattle.std.specs.List.{list_any}
use Rattle.indexmap.specs.IndexSet.{IndexSet, IsEmpty}
use Rattle.wat_lang.specs.declared.parts.Space.{Space}
use Rattle.wat_lang.specs.declared.fault.Row.TheVariants as rows
use Rattle.wat_lang.specs.Grammar.{Marked}
use Rattle.wat_lang.specs.Names.{text_of, binds_in}
use Rattle.wat_lang.specs.Rows.{Refusal, least, where_holds, is_taken}
use Rattle.wat_read_refusals.specs.Joined.{join}
use Rattle.wat_read_refusals.specs.Seen.{has_seen, HasSeen}
use Rattle.wat_read_refusals.specs.Single.{before_next, taken_row}
use Rattle.wat_read_refusals.proofs.Joins.{join_none}

pub seen_none : {S : Type 0} (seen : IndexSet (List ℕ) S) → IsEmpty seen → HasSeen seen []
seen_none seen e = λ n. ap (λ (ks : List (List ℕ)). list_any (bytes_eq n) ks) e

pub seen_same : {S : Type 0} (s : Space) (m : Marked) (seen : IndexSet (List ℕ) S) (before : List (List ℕ)) → binds_in s m.mark ≡ false → HasSeen seen before → HasSeen seen (before_next s before m)
seen_same s m seen before e h = λ n. h n ∙ sym (ap (λ (b : Bool). is_taken (if b then text_of m ∷ before else before) n) e)

pub seen_more : {S : Type 0} (s : Space) (m : Marked) (old new : IndexSet (List ℕ) S) (id : List ℕ) (before : List (List ℕ)) → binds_in s m.mark ≡ true → id ≡ text_of m
    → ((n : List ℕ) → has_seen new n ≡ (bytes_eq n id || has_seen old n)) → HasSeen old before → HasSeen new (before_next s before m)
seen_more s m old new id before e is put h = λ n.
    put n ∙ ap (λ (b : Bool). bytes_eq n id || b) (h n) ∙ ap (λ (k : List ℕ). bytes_eq n k || is_taken before n) is
    ∙ sym (ap (λ (b : Bool). is_taken (if b then text_of m ∷ before else before) n) e)

pub noted_none : (s : Space) (m : Marked) (before : List (List ℕ)) (r : Option Refusal) → binds_in s m.mark ≡ false → r ≡ join r (least (taken_row s before m))
noted_none s m before r e = sym (ap (λ (b : Bool). join r (least (if b then where_holds (is_taken before (text_of m)) rows.IdTaken m.token.at else []))) e ∙ join_none r)

pub noted_again : {S : Type 0} (s : Space) (m : Marked) (old : IndexSet (List ℕ) S) (id : List ℕ) (before : List (List ℕ)) (again : Bool) (r new : Option Refusal) → binds_in s m.mark ≡ true → id ≡ text_of m
    → again ≡ has_seen old id → HasSeen old before → new ≡ join r (least (where_holds again rows.IdTaken m.token.at)) → new ≡ join r (least (taken_row s before m))
noted_again s m old id before again r new e is saw h put =
    put ∙ ap (λ (b : Bool). join r (least (where_holds b rows.IdTaken m.token.at))) (saw ∙ h id ∙ ap (is_taken before) is)
    ∙ sym (ap (λ (b : Bool). join r (least (if b then where_holds (is_taken before (text_of m)) rows.IdTaken m.token.at else []))) e)
