-- What one token more adds to the outline of a text, and what it says at the end.
use Rattle.std.proofs.Common.{◌≡◌, ℕ, Bool, true, false, List, [], ◌∷◌, ◌++◌, map, Option, Some, None, refl, sym, ap, ◌∙◌, subst, append-nil}
use Rattle.std.proofs.lemmas.List.{map-append}
use Rattle.std.proofs.lemmas.List.Sums.{fold-append}
use Rattle.key_hashes.specs.Hashes as made
use Rattle.key_hashes.specs.declared.seed.Seed.{Seed}
use Rattle.wat_lang.specs.declared.parts.FieldKind.{FieldKind}
use Rattle.wat_lang.specs.declared.parts.Space.TheVariants as spaces
use Rattle.wat_lang.specs.Tokens.{Token}
use Rattle.wat_lang.specs.Grammar.{Mark, a_field, uses, a_word_32, a_word_64, an_offset, an_alignment, a_block_result, a_global_type, some_bytes, an_instruction, Marked, marked}
use Rattle.wat_lang.specs.Names as names
use Rattle.wat_lang.specs.Rows.{Refusal, utf8_rows, entry_rows, order_rows, count_rows, least}
use Rattle.wat_laws_kept.specs.Heads.{is_head, headed}
use Rattle.wat_laws_kept.specs.FieldByField.{is_field, with_part, begun_at}
use Rattle.wat_laws_kept.proofs.Headed.{names_of_headed, order_of_headed, counts_of_headed}
use Rattle.wat_laws_kept.proofs.FieldByField.{no_fields_in, no_field_more, fields_standing, stands_longer, all_joined}
use Rattle.wat_read_tokens.specs.Marks.{marks_of, only}
use Rattle.wat_read_names.specs.declared.spaces.Spaces.{Spaces}
use Rattle.wat_read_names.specs.Bound.{HasNames, seed_with}
use Rattle.wat_read_refusals.specs.Joined.{join}
use Rattle.wat_read_refusals.specs.Single.{name_row, entries_row, binds_in_module}
use Rattle.wat_read_refusals.proofs.Joins.{join_none, then_both}
use Rattle.wat_read_refusals.proofs.ByToken.{utf8_more, entries_more}
use Rattle.wat_read_refusals.proofs.OfModule.{kept_front}
use Rattle.wat_read_outline.specs.declared.outline.Begun.{Begun}
use Rattle.wat_read_outline.specs.declared.outline.TokenNotes.{TokenNotes}
use Rattle.wat_read_outline.specs.declared.outline.FieldNotes.{FieldNotes}
use Rattle.wat_read_outline.specs.declared.outline.Outline.{Outline}
use Rattle.wat_read_outline.specs.Outlines.{says_nothing, HasNoted, HasFields, HasOpen, HasNone, HasOpened}

abbrev pub field : FieldKind → ℕ → List Marked → names.Field
field kind at ms = record { kind = kind; at = at; parts = ms }

chosen_more : (test : Mark → Bool) (ks : List Marked) (m : Marked) → names.all_with test ks ++ only (test m.mark) m ≡ names.all_with test (ks ++ m ∷ [])
chosen_more test ks m =
    sym (all_joined test ks (m ∷ [])
    ∙ ap (λ (xs : List Marked). names.all_with test ks ++ xs) (kept_front (λ (n : Marked). test n.mark) m [] ∙ append-nil (only (test m.mark) m)))

-- ---- tokens

pub token_more : (old new : TokenNotes) (ks : List Marked) (m : Marked) → HasNoted old ks → new.seed ≡ seed_with old.seed m
    → marks_of new.bindings.items ≡ marks_of old.bindings.items ++ only (binds_in_module m.mark) m → new.names ≡ join old.names (least (name_row m))
    → new.entries ≡ join old.entries (least (entries_row m)) → HasNoted new (ks ++ m ∷ [])
token_more old new ks m h seed bound named entered = record {
  seed = seed ∙ ap (λ (s : Seed). seed_with s m) h.seed ∙ sym (fold-append seed_with made.no_keys ks (m ∷ []));
  bindings = bound ∙ ap (λ (xs : List Marked). xs ++ only (binds_in_module m.mark) m) h.bindings ∙ chosen_more binds_in_module ks m;
  names = then_both None old.names new.names (utf8_rows ks) (name_row m) h.names named ∙ ap least (sym (utf8_more ks m));
  entries = then_both None old.entries new.entries (entry_rows ks) (entries_row m) h.entries entered ∙ ap least (sym (entries_more ks m));
}

-- Nothing of the token is noted.
pub record IsSilent (m : Marked) : Type 0 where
  pub seed : (s : Seed) → s ≡ seed_with s m
  pub bound : binds_in_module m.mark ≡ false
  pub named : name_row m ≡ []
  pub entered : entries_row m ≡ []

silent_mark : (k : Mark) (t : Token) → says_nothing k ≡ true → IsSilent (marked k t)
silent_mark (an_instruction form) t e = record { seed = λ s. refl; bound = refl; named = refl; entered = refl }
silent_mark (uses s) t e = record { seed = λ s. refl; bound = refl; named = refl; entered = refl }
silent_mark a_word_32 t e = record { seed = λ s. refl; bound = refl; named = refl; entered = refl }
silent_mark a_word_64 t e = record { seed = λ s. refl; bound = refl; named = refl; entered = refl }
silent_mark an_offset t e = record { seed = λ s. refl; bound = refl; named = refl; entered = refl }
silent_mark an_alignment t e = record { seed = λ s. refl; bound = refl; named = refl; entered = refl }
silent_mark a_block_result t e = record { seed = λ s. refl; bound = refl; named = refl; entered = refl }
silent_mark a_global_type t e = record { seed = λ s. refl; bound = refl; named = refl; entered = refl }
silent_mark some_bytes t e = record { seed = λ s. refl; bound = refl; named = refl; entered = refl }
silent_mark k t e = absurd cc

pub says_nothing_silent : (m : Marked) → says_nothing m.mark ≡ true → IsSilent m
says_nothing_silent m e = silent_mark m.mark m.token e

pub field_silent : (m : Marked) (kind : FieldKind) → m.mark ≡ a_field kind → IsSilent m
field_silent m kind e =
    let at_field : IsSilent (marked (a_field kind) m.token) = record { seed = λ s. refl; bound = refl; named = refl; entered = refl } in
    subst (λ (k : Mark). IsSilent (marked k m.token)) (sym e) at_field

pub silent_more : (n : TokenNotes) (ks : List Marked) (m : Marked) → IsSilent m → HasNoted n ks → HasNoted n (ks ++ m ∷ [])
silent_more n ks m s h =
    token_more n n ks m h (s.seed n.seed)
    (sym (ap (λ (b : Bool). marks_of n.bindings.items ++ only b m) s.bound ∙ append-nil (marks_of n.bindings.items)))
    (sym (ap (λ (rs : List Refusal). join n.names (least rs)) s.named ∙ join_none n.names))
    (sym (ap (λ (rs : List Refusal). join n.entries (least rs)) s.entered ∙ join_none n.entries))

-- ---- the field that stands open

pub no_part : (k : Mark) → says_nothing k ≡ true → is_field k ≡ false
no_part (a_field kind) e = absurd cc
no_part k e = refl

pub no_head : (k : Mark) → says_nothing k ≡ true → is_head k ≡ false
no_head (an_instruction form) e = refl
no_head (uses s) e = refl
no_head a_word_32 e = refl
no_head a_word_64 e = refl
no_head an_offset e = refl
no_head an_alignment e = refl
no_head a_block_result e = refl
no_head a_global_type e = refl
no_head some_bytes e = refl
no_head k e = absurd cc

-- a part of the field
pub part_more : (old new : Outline) (ks : List Marked) (m : Marked) → HasOpened old ks old.open → is_field m.mark ≡ false → new.open ≡ old.open → new.fields ≡ old.fields
    → marks_of new.heads.items ≡ marks_of old.heads.items ++ only (is_head m.mark) m → HasOpened new (ks ++ m ∷ []) new.open
part_more old new ks m h e stays fields put = subst (HasOpened new (ks ++ m ∷ [])) (sym stays) (by old.open h)
  where
    by : (o : Option Begun) → HasOpened old ks o → HasOpened new (ks ++ m ∷ []) o
    by None h = record { none = no_field_more ks m h.none e; fields = subst (λ (n : FieldNotes). HasFields n []) (sym fields) h.fields }
    by (Some b) h = record {
      whole = h.whole;
      field = with_part h.field m;
      stands = stands_longer m h.stands e;
      kind = h.kind;
      at = h.at;
      heads = put ∙ ap (λ (xs : List Marked). xs ++ only (is_head m.mark) m) h.heads ∙ chosen_more is_head h.field.parts m;
      fields = subst (λ (n : FieldNotes). HasFields n (map headed h.whole)) (sym fields) h.fields;
    }

-- the field begins where all before it are whole
pub field_begun : (n : Outline) (b : Begun) (ks : List Marked) (m : Marked) → HasFields n.fields (map headed (names.fields_of ks)) → n.heads.items ≡ [] → m.mark ≡ a_field b.kind → m.token.at ≡ b.at
    → HasOpen n b (ks ++ m ∷ [])
field_begun n b ks m fields none is there = record {
  whole = names.fields_of ks;
  field = begun_at b.kind m;
  stands = record { before = ks; first = m; is_first = is; there = refl; parts = refl; inside = refl; whole = refl };
  kind = refl;
  at = there;
  heads = ap marks_of none;
  fields = fields;
}

-- no field stood open
pub none_whole : (n : Outline) (ks : List Marked) → HasNone n ks → HasFields n.fields (map headed (names.fields_of ks))
none_whole n ks h = subst (λ (fs : List names.Field). HasFields n.fields (map headed fs)) (sym (no_fields_in ks h.none)) h.fields

-- the one that stood open is the last
pub open_whole : (n : Outline) (b : Begun) (ks : List Marked) (h : HasOpen n b ks) (notes : FieldNotes) (ms : List Marked) → ms ≡ marks_of n.heads.items
    → HasFields notes (map headed h.whole ++ field b.kind b.at ms ∷ []) → HasFields notes (map headed (names.fields_of ks))
open_whole n b ks h notes ms there fields =
    let f : names.Field = h.field in
    let same : field b.kind b.at ms ≡ headed f = rw (sym h.kind, sym h.at, there, h.heads) refl in
    subst (HasFields notes)
    (ap (λ (g : names.Field). map headed h.whole ++ g ∷ []) same ∙ sym (map-append headed h.whole (f ∷ [])) ∙ ap (map headed) (sym (fields_standing h.stands)))
    fields

-- ---- all of it

-- heads alone have the names of the fields
pub names_whole : (n : Spaces) (fs : List names.Field) → HasNames n (map headed fs) → HasNames n fs
names_whole n fs h = record {
  types = h.types ∙ names_of_headed spaces.Type refl fs;
  functions = h.functions ∙ names_of_headed spaces.Func refl fs;
  tables = h.tables ∙ names_of_headed spaces.Table refl fs;
  memories = h.memories ∙ names_of_headed spaces.Memory refl fs;
  globals = h.globals ∙ names_of_headed spaces.Global refl fs;
  elements = h.elements ∙ names_of_headed spaces.Elem refl fs;
  segments = h.segments ∙ names_of_headed spaces.Data refl fs;
}

pub orders_whole : (fs : List names.Field) → least (order_rows false false (map headed fs) ++ count_rows (map headed fs)) ≡ least (order_rows false false fs ++ count_rows fs)
orders_whole fs =
    ap (λ (rs : List Refusal). least (rs ++ count_rows (map headed fs))) (order_of_headed false false fs)
    ∙ ap (λ (rs : List Refusal). least (order_rows false false fs ++ rs)) (counts_of_headed fs)
