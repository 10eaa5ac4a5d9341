-- Fields whose parts lack some marks that say nothing.
use Rattle.std.proofs.Common.{◌≡◌, ℕ, Bool, true, false, ◌&&◌, not, cond, List, [], ◌∷◌, ◌++◌, map, Option, refl, ap, ◌∙◌}
use Rattle.std.specs.Prelude.{filter, flat_map, option_map}
use Rattle.std.proofs.Math.Path.{fun_ext}
use Rattle.wat_lang.specs.declared.parts.Space.{Space}
use Rattle.wat_lang.specs.declared.parts.Space.TheVariants as spaces
use Rattle.wat_lang.specs.declared.parts.Part.TheVariants.{Param, Result}
use Rattle.wat_lang.specs.declared.parts.FieldKind.{FieldKind}
use Rattle.wat_lang.specs.declared.parts.FieldKind.TheVariants as kinds
use Rattle.wat_lang.specs.Grammar.{Mark, a_field, Marked}
use Rattle.wat_lang.specs.Names.{text_of, Names, Field, Cut, cut, cut_at, fields_of, entry_of, enters, is_import, id_bound, names_of, binds_in, types_part, signature_of, types_of}
use Rattle.wat_laws_kept.specs.Kept.{kept}
use Rattle.wat_laws_kept.proofs.Dropped.{Drops, none, keeps, drops, kept_drops, same_all, same_first, same_described}

abbrev pub field : FieldKind → ℕ → List Marked → Field
field kind at ms = record { kind = kind; at = at; parts = ms }

-- the parts of the first field are those of the other without some that say nothing
pub data Thins : Field → Field → Type 0 where
  thins : (kind : FieldKind) (at : ℕ) {ks ms : List Marked} → Drops ks ms → Thins (field kind at ks) (field kind at ms)

pub data AllThin : List Field → List Field → Type 0 where
  no_fields : AllThin [] []
  more : {g f : Field} {gs fs : List Field} → Thins g f → AllThin gs fs → AllThin (g ∷ gs) (f ∷ fs)

-- ---- the fields of marks

pub record Cuts (a b : Cut) : Type 0 where
  pub before : Drops a.0 b.0
  pub fields : AllThin a.1 b.1

same_cut : {ks ms : List Marked} → Drops ks ms → Cuts (cut ks) (cut ms)
same_cut none = record { before = none; fields = no_fields }
same_cut (keeps {ks = ks} {ms = ms} m d) = by (same_cut d) m.mark
  where
    by : Cuts (cut ks) (cut ms) → (k : Mark) → Cuts (cut_at m (cut ks) k) (cut_at m (cut ms) k)
    by below (a_field kind) = record { before = none; fields = more (thins kind m.token.at below.before) below.fields }
    by below k = record { before = keeps m below.before; fields = below.fields }
same_cut (drops t d) = let below = same_cut d in record { before = drops t below.before; fields = below.fields }

pub thin_fields : (ms : List Marked) → AllThin (fields_of (kept ms)) (fields_of ms)
thin_fields ms = (same_cut (kept_drops ms)).fields

-- ---- what is told of a field

pub same_entry : {g f : Field} → Thins g f → entry_of g ≡ entry_of f
same_entry (thins kinds.Import at d) = same_described d
same_entry (thins kind at d) = refl

pub same_enters : (s : Space) {g f : Field} → Thins g f → enters s g ≡ enters s f
same_enters s {g = g} {f = f} t = rw (enters, same_entry t) refl

pub same_kind : {g f : Field} → Thins g f → g.kind ≡ f.kind
same_kind (thins kind at d) = refl

-- ---- lists of fields

pub same_map : {X : Type 0} (F : Field → X) → ((g f : Field) → Thins g f → F g ≡ F f) → {gs fs : List Field} → AllThin gs fs → map F gs ≡ map F fs
same_map F e no_fields = refl
same_map F e (more {g = g} {f = f} {gs = gs} {fs = fs} t ts) = ap (λ x. x ∷ map F gs) (e g f t) ∙ ap (λ xs. F f ∷ xs) (same_map F e ts)

pub same_flats : {X : Type 0} (F : Field → List X) → ((g f : Field) → Thins g f → F g ≡ F f) → {gs fs : List Field} → AllThin gs fs → flat_map F gs ≡ flat_map F fs
same_flats F e no_fields = refl
same_flats F e (more {g = g} {f = f} {gs = gs} {fs = fs} t ts) = ap (λ x. x ++ flat_map F gs) (e g f t) ∙ ap (λ xs. F f ++ xs) (same_flats F e ts)

pub same_filter : (test : Field → Bool) → ((g f : Field) → Thins g f → test g ≡ test f) → {gs fs : List Field} → AllThin gs fs → AllThin (filter test gs) (filter test fs)
same_filter test e no_fields = no_fields
same_filter test e (more {g = g} {f = f} {gs = gs} {fs = fs} t ts) = by (same_filter test e ts) (test g) (test f) (e g f t)
  where
    by : AllThin (filter test gs) (filter test fs) → (a b : Bool) → a ≡ b → AllThin (cond a (g ∷ filter test gs) (filter test gs)) (cond b (f ∷ filter test fs) (filter test fs))
    by below true true q = more t below
    by below false false q = below
    by below true false q = absurd cc
    by below false true q = absurd cc

-- what is told of the parts of those that pass a test
pub same_parts : {X : Type 0} (F : List Marked → X) → ((ks ms : List Marked) → Drops ks ms → F ks ≡ F ms) → {gs fs : List Field} → AllThin gs fs → map (λ (f : Field). F f.parts) gs ≡ map (λ (f : Field). F f.parts) fs
same_parts F e no_fields = refl
same_parts F e (more {gs = gs} {fs = fs} (thins kind at {ks = ks} {ms = ms} d) ts) = ap (λ x. x ∷ map (λ (f : Field). F f.parts) gs) (e ks ms d) ∙ ap (λ xs. F ms ∷ xs) (same_parts F e ts)

-- ---- names and types

same_bound : (s : Space) (ks ms : List Marked) → Drops ks ms → id_bound s ks ≡ id_bound s ms
same_bound s ks ms d = ap (λ (o : Option Marked). option_map text_of o) (same_first (binds_in s) refl d)

pub same_names : {gs fs : List Field} → AllThin gs fs → names_of gs ≡ names_of fs
same_names {gs = gs} {fs = fs} ts = fun_ext (λ s.
    let imported = same_parts (id_bound s) (same_bound s) (same_filter (λ f. enters s f && is_import f.kind) (λ g f t. rw (same_enters s t, same_kind t) refl) ts) in
    let own = same_parts (id_bound s) (same_bound s) (same_filter (λ f. enters s f && not (is_import f.kind)) (λ g f t. rw (same_enters s t, same_kind t) refl) ts) in
    ap (λ (xs : Names). xs ++ map (λ (g : Field). id_bound s g.parts) (filter (λ f. enters s f && not (is_import f.kind)) gs)) imported
    ∙ ap (λ (xs : Names). map (λ (g : Field). id_bound s g.parts) (filter (λ f. enters s f && is_import f.kind) fs) ++ xs) own)

pub same_signature : (ks ms : List Marked) → Drops ks ms → signature_of ks ≡ signature_of ms
same_signature ks ms d = rw (same_all (types_part Param) refl d, same_all (types_part Result) refl d) refl

pub same_types : {gs fs : List Field} → AllThin gs fs → types_of gs ≡ types_of fs
same_types ts = same_parts signature_of same_signature (same_filter (enters spaces.Type) (λ g f t. same_enters spaces.Type t) ts)
