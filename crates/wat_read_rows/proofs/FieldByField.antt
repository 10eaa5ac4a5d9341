-- What one field more adds to the order of fields and to their counts.
use Rattle.std.proofs.Common.{◌≡◌, ℕ, suc, ◌+◌, ◌-◌, Bool, true, false, ◌&&◌, ◌||◌, List, [], ◌∷◌, ◌++◌, length, Option, Some, None, refl, sym, ap, ◌∙◌, arith, append_assoc, append-nil, length-append}
use Rattle.std.specs.Prelude.{is_some, nat_le, if◌then◌else◌}
use Rattle.wat_lang.specs.declared.parts.Space.{Space}
use Rattle.wat_lang.specs.declared.fault.Row.TheVariants as rows
use Rattle.wat_lang.specs.Names.{same_space, Field, Entry, entry_of, is_import}
use Rattle.wat_lang.specs.Rows.{Refusal, where_holds, defines, starts, least, order_rows, entries_in, entries_from, count_rows}
use Rattle.std.proofs.lemmas.List.Sums.{fold-append}
use Rattle.wat_laws_kept.specs.FieldByField.{defined_by, started_by}
use Rattle.wat_laws_kept.proofs.FieldByField.{order_joined, entries_joined, counts_joined}
use Rattle.wat_read_refusals.specs.Joined.{join}
use Rattle.wat_read_refusals.proofs.Fronts.{after, room_is}
use Rattle.wat_read_refusals.proofs.Joins.{then_both}
use Rattle.wat_read_rows.specs.declared.orders.Count.{Count}
use Rattle.wat_read_rows.specs.declared.orders.Orders.{Orders}
use Rattle.wat_read_rows.specs.Ordered.{HasCount, HasOrder}
use Rattle.wat_read_rows.specs.Single.{place_in, over_row}
use Rattle.wat_read_rows.proofs.Fronts.{entries_front}

pub defined_more : (fs : List Field) (f : Field) → defined_by false (fs ++ f ∷ []) ≡ (defined_by false fs || defines f.kind)
defined_more fs f = fold-append (λ (b : Bool) (g : Field). b || defines g.kind) false fs (f ∷ [])

pub started_more : (fs : List Field) (f : Field) → started_by false (fs ++ f ∷ []) ≡ (started_by false fs || starts f.kind)
started_more fs f = fold-append (λ (b : Bool) (g : Field). b || starts g.kind) false fs (f ∷ [])

-- ---- the order

-- a field behind such ones
abbrev order_row : (defined started : Bool) → Field → List Refusal
order_row defined started f = where_holds ((is_import f.kind && defined) || (starts f.kind && started)) rows.Order f.at

order_behind : (fs : List Field) (f : Field) → order_rows false false (fs ++ f ∷ []) ≡ order_rows false false fs ++ order_row (defined_by false fs) (started_by false fs) f
order_behind fs f =
    order_joined false false fs (f ∷ [])
    ∙ ap (λ (rs : List Refusal). order_rows false false fs ++ rs) (append-nil (order_row (defined_by false fs) (started_by false fs) f))

pub order_more : (defined started : Bool) (old new : Option Refusal) (late : Bool) (fs : List Field) (f : Field) → defined ≡ defined_by false fs → started ≡ started_by false fs → old ≡ least (order_rows false false fs)
    → late ≡ ((is_import f.kind && defined) || (starts f.kind && started)) → new ≡ join old (least (where_holds late rows.Order f.at)) → new ≡ least (order_rows false false (fs ++ f ∷ []))
order_more defined started old new late fs f d s e is put =
    let here = ap (λ (b : Bool). order_row b started f) d ∙ ap (λ (b : Bool). order_row (defined_by false fs) b f) s in
    then_both None old new (order_rows false false fs) (order_row (defined_by false fs) (started_by false fs) f) e
    (put ∙ ap (λ (b : Bool). join old (least (where_holds b rows.Order f.at))) is ∙ ap (λ (rs : List Refusal). join old (least rs)) here)
    ∙ ap least (sym (order_behind fs f))

-- ---- counts

-- a field puts at most one thing into a space
counted : (s : Space) (f : Field) (before : ℕ) → after (is_some (place_in s (entry_of f))) before ≡ before + length (entries_in s (f ∷ []))
counted s f before = by (entry_of f)
  where
    of_entry : Option Entry → List Entry
    of_entry None = []
    of_entry (Some e) = if same_space s e.space then e ∷ [] else []

    among : (e : Entry) (b : Bool) → after (is_some (if b then Some e.at else None)) before ≡ before + length ((if b then e ∷ [] else []) ++ [])
    among e true = refl
    among e false = omega arith

    by : (o : Option Entry) → after (is_some (place_in s o)) before ≡ before + length (of_entry o ++ [])
    by None = omega arith
    by (Some e) = among e (same_space s e.space)

over_behind : (s : Space) (most : ℕ) (fs : List Field) (f : Field) → entries_from most 0 (entries_in s (fs ++ f ∷ [])) ≡ entries_from most 0 (entries_in s fs) ++ over_row most (length (entries_in s fs)) (place_in s (entry_of f))
over_behind s most fs f =
    let es = entries_in s fs in
    let row = over_row most (length es) (place_in s (entry_of f)) in
    ap (entries_from most 0) (entries_joined s fs (f ∷ [])) ∙ counts_joined most 0 es (entries_in s (f ∷ []))
    ∙ ap (λ (n : ℕ). entries_from most 0 es ++ entries_from most n (entries_in s (f ∷ []))) (let e : 0 + length es ≡ length es = omega arith in e)
    ∙ ap (λ (rs : List Refusal). entries_from most 0 es ++ rs) (entries_front s most (length es) f [] ∙ append-nil row)

pub count_more : (s : Space) (most : ℕ) (fs : List Field) (f : Field) (old new : Count) (place : Option ℕ) (holds : Bool) → HasCount old most s fs → place ≡ place_in s (entry_of f) → holds ≡ is_some place
    → new.room ≡ (if holds then old.room - 1 else old.room) → new.least ≡ join old.least (least (over_row most (length (entries_in s fs)) place)) → HasCount new most s (fs ++ f ∷ [])
count_more s most fs f old new place holds h is some room put =
    let es = entries_in s fs in
    let test = is_some (place_in s (entry_of f)) in
    let more : after test (length es) ≡ length (entries_in s (fs ++ f ∷ [])) =
    counted s f (length es) ∙ sym (length-append es (entries_in s (f ∷ []))) ∙ ap (λ (xs : List Entry). length xs) (sym (entries_joined s fs (f ∷ []))) in
    record {
      room =
          room ∙ ap (λ (b : Bool). if b then old.room - 1 else old.room) (some ∙ ap (λ (o : Option ℕ). is_some o) is)
          ∙ room_is test most (length es) old.room h.room ∙ ap (λ (n : ℕ). most - n) more;
      noted =
          then_both None old.least new.least (entries_from most 0 es) (over_row most (length es) (place_in s (entry_of f))) h.noted
          (put ∙ ap (λ (o : Option ℕ). join old.least (least (over_row most (length es) o))) is)
          ∙ ap least (sym (over_behind s most fs f));
    }

-- ---- all of them

pub all_found : (o : Orders) (fs : List Field) (a b c : Option Refusal) → HasOrder o fs → a ≡ join o.order o.types.least → b ≡ join a o.functions.least → c ≡ join b o.globals.least
    → c ≡ least (order_rows false false fs ++ count_rows fs)
all_found o fs a b c h ea eb ec =
    then_both None o.order c (order_rows false false fs) (count_rows fs) h.order
    (then_both o.order a c _ _ (ea ∙ ap (join o.order) h.types.noted)
    (then_both a b c _ _ (eb ∙ ap (join a) h.functions.noted) (ec ∙ ap (join b) h.globals.noted)))
