use Rattle.std.proofs.Common.{◌++◌, ◌∷◌, [], length-append, ap, ◌∙◌, sym, arith, subst, refl}
use Rattle.std.specs.Prelude.{if◌then◌else◌, Some}
use Rattle.std.specs.Map.{lookup}
use Rattle.std.specs.Str.{bytes_eq}
use Rattle.indexmap.specs.IndexMap.{get_by}
use Rattle.shared_bytes.specs.Chunks.{chunk, IsHeld}
use Rattle.shared_bytes.proofs.Joined.{held_put, held_before, chunk_last}
use Rattle.shared_bytes.proofs.sharing.hold.Goals as goal

pub returns-in-Some-clause-place : goal.returns-in-Some-clause-place
returns-in-Some-clause-place c =
    subst (IsHeld c.args.chunks.now.items c.args.bytes.now)
    (ap (λ n. get_by (bytes_eq n) c.args.places.now) (sym c.of.ensures) ∙ sym c.in-Some.ensures.value)
    (c.requires c.args.bytes.now)

pub returns-in_err-insert-clause-held : goal.returns-in_err-insert-clause-held
returns-in_err-insert-clause-held c = λ bytes.
    subst (λ cs. IsHeld cs bytes (get_by (bytes_eq bytes) c.insert.new.self)) (sym c.in_ok-push.ensures.items)
    (subst (IsHeld (c.args.chunks.now.items ++ c.in_ok-from_slice.field-0 ∷ []) bytes) (sym (ap (lookup (bytes_eq bytes)) c.in_err-insert.ensures.err))
    (held_before c.args.chunks.now.items (c.in_ok-from_slice.field-0 ∷ []) bytes (get_by (bytes_eq bytes) c.args.places.now) (c.requires bytes)))

pub returns-clause-held : goal.returns-clause-held
returns-clause-held c = λ bytes.
    let old = get_by (bytes_eq bytes) c.args.places.now in
    let put = c.in_ok-insert.ensures.updates.0 bytes
    ∙ ap (λ k. if bytes_eq k bytes then Some c.len-place.result else old) c.of-2.ensures
    ∙ ap (λ i. if bytes_eq c.args.bytes.now bytes then Some i else old) (c.len-place.ensures ∙ c.args.chunks.now.ok.0) in
    subst (λ cs. IsHeld cs bytes (get_by (bytes_eq bytes) c.insert.new.self)) (sym c.in_ok-push.ensures.items)
    (held_put c.args.chunks.now.items c.in_ok-from_slice.field-0 c.args.bytes.now bytes (bytes_eq c.args.bytes.now bytes) old _ refl c.in_ok-from_slice.ensures.items (c.requires bytes) put)

pub returns-clause-place : goal.returns-clause-place
returns-clause-place c =
    let cs = c.args.chunks.now.items in
    let v = c.in_ok-from_slice.field-0 in
    let last = c.len-place.ensures ∙ c.args.chunks.now.ok.0 in
    let longer = length-append cs (v ∷ []) in
    let put : IsHeld (cs ++ v ∷ []) c.args.bytes.now (Some c.len-place.result) = (omega arith, ap (chunk (cs ++ v ∷ [])) last ∙ chunk_last cs v ∙ c.in_ok-from_slice.ensures.items) in
    subst (λ cs. IsHeld cs c.args.bytes.now (Some c.len-place.result)) (sym c.in_ok-push.ensures.items) put
