-- What fields put into the spaces of a module, one field more.
use Rattle.std.proofs.Common.{◌≡◌, Bool, true, false, ◌&&◌, not, List, [], ◌∷◌, ◌++◌, map, filter, Some, None, refl, sym, ap, ◌∙◌, append_assoc, append-nil}
use Rattle.wasm_lang.specs.Modules.{FunctionType}
use Rattle.wasm_tree.specs.Views.{type_of}
use Rattle.wat_lang.specs.declared.parts.Space.{Space}
use Rattle.wat_lang.specs.declared.parts.Space.TheVariants as spaces
use Rattle.wat_lang.specs.Names.{Field, Entry, Names, entry_of, enters, is_import, id_bound, names_of, signature_of, types_of}
use Rattle.wat_read_tokens.specs.Marks.{only}
use Rattle.wat_read_names.specs.declared.lists.Bound.{Bound}
use Rattle.wat_read_names.specs.declared.naming.Naming.{Naming}
use Rattle.wat_read_names.specs.Bound.{bound_in, is_of, EntersOnly, IsBound, HasNamed}
use Rattle.wat_read_tokens.proofs.Steps.{only_front}

-- ---- one item more

only_back : {X Y : Type 0} (p : X → Bool) (f : X → Y) (xs : List X) (x : X) → map f (filter p (xs ++ x ∷ [])) ≡ map f (filter p xs) ++ only (p x) (f x)
only_back p f [] x = only_front p f x [] ∙ append-nil (only (p x) (f x))
only_back p f (y ∷ xs) x =
    only_front p f y (xs ++ x ∷ []) ∙ ap (λ ys. only (p y) (f y) ++ ys) (only_back p f xs x)
    ∙ sym (append_assoc (only (p y) (f y)) (map f (filter p xs)) (only (p x) (f x)))
    ∙ ap (λ ys. ys ++ only (p x) (f x)) (sym (only_front p f y xs))

bound_back : (s : Space) (imported : Bool) (fs : List Field) (f : Field) → bound_in s imported (fs ++ f ∷ []) ≡ bound_in s imported fs ++ only (enters s f && is_of imported f) (id_bound s f.parts)
bound_back s imported fs f = only_back (λ (g : Field). enters s g && is_of imported g) (λ (g : Field). id_bound s g.parts) fs f

-- the field isn't of those that count, or it is
bound_same : (s : Space) (imported : Bool) (fs : List Field) (f : Field) (ns : Names) → (enters s f && is_of imported f) ≡ false → ns ≡ bound_in s imported fs → ns ≡ bound_in s imported (fs ++ f ∷ [])
bound_same s imported fs f ns out h =
    h ∙ sym (append-nil (bound_in s imported fs)) ∙ ap (λ b. bound_in s imported fs ++ only b (id_bound s f.parts)) (sym out) ∙ sym (bound_back s imported fs f)

bound_more : (s : Space) (imported : Bool) (fs : List Field) (f : Field) (old new : Names) → (enters s f && is_of imported f) ≡ true → old ≡ bound_in s imported fs → new ≡ old ++ id_bound s f.parts ∷ [] → new ≡ bound_in s imported (fs ++ f ∷ [])
bound_more s imported fs f old new counts h more =
    more ∙ ap (λ (ns : Names). ns ++ id_bound s f.parts ∷ []) h
    ∙ ap (λ b. bound_in s imported fs ++ only b (id_bound s f.parts)) (sym counts) ∙ sym (bound_back s imported fs f)

both : (a b c : Bool) → a ≡ true → b ≡ c → (a && b) ≡ c
both true b c h e = e
both false b c h e = absurd cc

neither : (a b : Bool) → a ≡ false → (a && b) ≡ false
neither false b h = refl
neither true b h = absurd cc

pub import_more : (s : Space) (fs : List Field) (f : Field) (old new : Bound) → enters s f ≡ true → is_import f.kind ≡ true → new.imported ≡ old.imported ++ id_bound s f.parts ∷ [] → new.defined ≡ old.defined → IsBound old s fs → IsBound new s (fs ++ f ∷ [])
import_more s fs f old new there counts more same h = record {
  imported = bound_more s true fs f old.imported new.imported (both _ _ _ there counts) h.imported more;
  defined = bound_same s false fs f new.defined (both _ _ _ there (ap not counts)) (same ∙ h.defined);
}

pub defined_more : (s : Space) (fs : List Field) (f : Field) (old new : Bound) → enters s f ≡ true → is_import f.kind ≡ false → new.imported ≡ old.imported → new.defined ≡ old.defined ++ id_bound s f.parts ∷ [] → IsBound old s fs → IsBound new s (fs ++ f ∷ [])
defined_more s fs f old new there out same more h = record {
  imported = bound_same s true fs f new.imported (both _ _ _ there out) (same ∙ h.imported);
  defined = bound_more s false fs f old.defined new.defined (both _ _ _ there (ap not out)) h.defined more;
}

-- ---- the spaces that the field doesn't enter

passes : (s : Space) (b : Bound) (fs : List Field) (f : Field) → enters s f ≡ false → IsBound b s fs → IsBound b s (fs ++ f ∷ [])
passes s b fs f out h = record {
  imported = bound_same s true fs f b.imported (neither _ _ out) h.imported;
  defined = bound_same s false fs f b.defined (neither _ _ out) h.defined;
}

types_pass : (fs : List Field) (f : Field) → enters spaces.Type f ≡ false → types_of (fs ++ f ∷ []) ≡ types_of fs
types_pass fs f out =
    only_back (enters spaces.Type) (λ (g : Field). signature_of g.parts) fs f ∙ ap (λ b. types_of fs ++ only b (signature_of f.parts)) out ∙ append-nil (types_of fs)

pub types_more : (fs : List Field) (f : Field) (old new : List FunctionType) → enters spaces.Type f ≡ true → old ≡ types_of fs → new ≡ old ++ signature_of f.parts ∷ [] → new ≡ types_of (fs ++ f ∷ [])
types_more fs f old new counts h more =
    more ∙ ap (λ (ts : List FunctionType). ts ++ signature_of f.parts ∷ []) h ∙ ap (λ b. types_of fs ++ only b (signature_of f.parts)) (sym counts)
    ∙ sym (only_back (enters spaces.Type) (λ (g : Field). signature_of g.parts) fs f)

abbrev pub Unless : Bool → Type 0 → Type 0
Unless true A = Unit {0}
Unless false A = A

other : (b : Bool) (A : Type 0) → (b ≡ false → A) → Unless b A
other true A f = tt
other false A f = f refl

-- what is right, but for the spaces that are entered
pub record Passes (n : Naming) (hit : Space → Bool) (fs : List Field) : Type 0 where
  pub types : Unless (hit spaces.Type) (IsBound n.types spaces.Type fs)
  pub functions : Unless (hit spaces.Func) (IsBound n.functions spaces.Func fs)
  pub tables : Unless (hit spaces.Table) (IsBound n.tables spaces.Table fs)
  pub memories : Unless (hit spaces.Memory) (IsBound n.memories spaces.Memory fs)
  pub globals : Unless (hit spaces.Global) (IsBound n.globals spaces.Global fs)
  pub elements : Unless (hit spaces.Elem) (IsBound n.elements spaces.Elem fs)
  pub segments : Unless (hit spaces.Data) (IsBound n.segments spaces.Data fs)
  pub signatures : Unless (hit spaces.Type) (map type_of n.signatures.items ≡ types_of fs)

pub others : (n : Naming) (hit : Space → Bool) (fs : List Field) (f : Field) → ((s : Space) → enters s f ≡ hit s) → HasNamed n fs → Passes n hit (fs ++ f ∷ [])
others n hit fs f e h = record {
  types = other _ _ (λ out. passes spaces.Type n.types fs f (e spaces.Type ∙ out) h.types);
  functions = other _ _ (λ out. passes spaces.Func n.functions fs f (e spaces.Func ∙ out) h.functions);
  tables = other _ _ (λ out. passes spaces.Table n.tables fs f (e spaces.Table ∙ out) h.tables);
  memories = other _ _ (λ out. passes spaces.Memory n.memories fs f (e spaces.Memory ∙ out) h.memories);
  globals = other _ _ (λ out. passes spaces.Global n.globals fs f (e spaces.Global ∙ out) h.globals);
  elements = other _ _ (λ out. passes spaces.Elem n.elements fs f (e spaces.Elem ∙ out) h.elements);
  segments = other _ _ (λ out. passes spaces.Data n.segments fs f (e spaces.Data ∙ out) h.segments);
  signatures = other _ _ (λ out. h.signatures ∙ sym (types_pass fs f (e spaces.Type ∙ out)));
}

-- The field enters no space that is numbered.
pub none_entered : (n : Naming) (fs : List Field) (f : Field) → ((s : Space) → enters s f ≡ false) → HasNamed n fs → HasNamed n (fs ++ f ∷ [])
none_entered n fs f e h =
    let o = others n (λ s. false) fs f e h in
    record { types = o.types; functions = o.functions; tables = o.tables; memories = o.memories; globals = o.globals; elements = o.elements; segments = o.segments; signatures = o.signatures }

-- ---- what the field enters

pub enters_none : (f : Field) → entry_of f ≡ None → (s : Space) → enters s f ≡ false
enters_none f e s = rw e refl

pub enters_only : (f : Field) (x : Entry) → entry_of f ≡ Some x → EntersOnly f x.space
enters_only f x e s = rw e refl

-- ---- all of a space

pub names_joined : (s : Space) (fs : List Field) (b : Bound) (ids : Names) → IsBound b s fs → ids ≡ b.imported ++ b.defined → ids ≡ names_of fs s
names_joined s fs b ids h e = e ∙ ap (λ (ns : Names). ns ++ b.defined) h.imported ∙ ap (λ (ns : Names). bound_in s true fs ++ ns) h.defined
