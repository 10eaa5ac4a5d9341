-- The graph of an accepted module: what is reached in it is what is reached in the module.
use Rattle.std.proofs.Common.{◌≡◌, ℕ, ◌+◌, ◌<◌, Bool, true, false, List, [], ◌∷◌, ◌++◌, map, length, get_or, Some, ◌⊎◌, inl, inr, refl, sym, ap, ◌∙◌, subst}
use Rattle.std.proofs.lemmas.List.{length-map}
use Rattle.std.proofs.lemmas.List.Elements.{Contains-append_left, Contains-append_right, Contains-append_cases}
use Rattle.std.proofs.lemmas.Option.{slice_get_within, get_or_from_slice_get}
use Rattle.std.specs.Prelude.{if◌then◌else◌, bytes_eq, slice_get, Contains}
use Rattle.std.specs.List.{AllByRecursion}
use Rattle.asm_lang.specs.Trees.{Init, number, decimal, foreign_int, foreign_double, member as foreign_member, math, view}
use Rattle.asm_lang.specs.Modules.{Variable, Param, Function, Table, Export, Exports, one, many, Module}
use Rattle.asm_lang_valid.specs.Scope.{Meaning, nothing, an_int, an_outside, a_foreign, a_builtin, a_view, a_function, a_table, a_parameter, local_init, among_locals, among_params, module_meaning}
use Rattle.asm_lang_valid.specs.NameRows.{is_function}
use Rattle.asm_lang_valid.specs.Typing.{Scope, named}
use Rattle.asm_lang_valid.specs.Typed.{scope_of}
use Rattle.asm_lang_valid.specs.Refusal.{Exported, exported as exported_as, exported_from}
use Rattle.asm_short_lang.specs.Uses.{Use, of_variable, of_view, of_callee, of_table, stmts_uses}
use Rattle.asm_short_lang.specs.Reached.{IsReached, exported, called, member, IsEntered}
use Rattle.asm_laws_short.proofs.Lists.{Distinct, distinct_parts, all_at}
use Rattle.asm_laws_short.proofs.Kept.{contains_here, contains_later, contains_split, contains_none, contains_map, contains_of_map, Plain, function_at, table_at}
use Rattle.asm_laws_short.proofs.Rows.{MeansFunction, export_functions, Says}
use Rattle.asm_laws_short.proofs.Outside.{means_function}
use Rattle.graph_reach.specs.Graph as graph
use Rattle.graph_reach.specs.Graph.{at_first, by_link}
use Rattle.asm_short_graph.specs.Graphs.{function_names, table_names, node_names, node_of, is_table, link_if, use_links, uses_links, function_links, member_links, members_links, table_links, module_links, first_nodes}
use Rattle.asm_short_graph.proofs.Places.{placed, contains_at, mapped_at, left_at, right_at, number_at}

-- ---- what is no variable of a function means the same in the module

plain_init : (i : Init) → Plain (local_init i)
plain_init (number z) = tt
plain_init (decimal bs) = tt
plain_init (foreign_int f p) = tt
plain_init (foreign_double f p) = tt
plain_init (foreign_member f p) = tt
plain_init (math f p) = tt
plain_init (view f p b) = tt

through_locals : (vs : List Variable) (n : List ℕ) (o x : Meaning) → (Plain x → ⊥) → among_locals vs n o ≡ x → o ≡ x
through_locals [] n o x other e = e
through_locals (v ∷ vs) n o x other e = by (bytes_eq v.name n) (through_locals vs n o x other) e
  where
    by : (b : Bool) → (among_locals vs n o ≡ x → o ≡ x) → (if b then local_init v.init else among_locals vs n o) ≡ x → o ≡ x
    by true rest e = absurd (other (subst Plain e (plain_init v.init)))
    by false rest e = rest e

through_params : (ps : List Param) (n : List ℕ) (o x : Meaning) → (Plain x → ⊥) → among_params ps n o ≡ x → o ≡ x
through_params [] n o x other e = e
through_params (p ∷ ps) n o x other e = by (bytes_eq p.name n) (through_params ps n o x other) e
  where
    double : (b : Bool) → Plain (if b then an_outside else an_int)
    double true = tt
    double false = tt

    by : (b : Bool) → (among_params ps n o ≡ x → o ≡ x) → (if b then (if p.double then an_outside else an_int) else among_params ps n o) ≡ x → o ≡ x
    by true rest e = absurd (other (subst Plain e (double p.double)))
    by false rest e = rest e

in_module : (m : Module) (f : Function) (n : List ℕ) (x : Meaning) → (Plain x → ⊥) → named (scope_of m f) n ≡ x → module_meaning m n ≡ x
in_module m f n x other e = through_locals f.locals n (module_meaning m n) x other (through_params f.params n (among_locals f.locals n (module_meaning m n)) x other e)

function_in_module : (m : Module) (f : Function) (n : List ℕ) (g : Function) → named (scope_of m f) n ≡ a_function g → module_meaning m n ≡ a_function g
function_in_module m f n g e = in_module m f n (a_function g) (λ p. p) e

table_in_module : (m : Module) (f : Function) (n : List ℕ) (t : Table) → named (scope_of m f) n ≡ a_table t → module_meaning m n ≡ a_table t
table_in_module m f n t e = in_module m f n (a_table t) (λ p. p) e

-- ---- links

table_meant : (x : Meaning) → is_table x ≡ true → (t : Table) × (x ≡ a_table t)
table_meant nothing h = absurd (cc h)
table_meant an_int h = absurd (cc h)
table_meant an_outside h = absurd (cc h)
table_meant (a_foreign p) h = absurd (cc h)
table_meant (a_builtin b) h = absurd (cc h)
table_meant (a_view e) h = absurd (cc h)
table_meant (a_function g) h = absurd (cc h)
table_meant (a_table t) h = (t, refl)
table_meant a_parameter h = absurd (cc h)

record IsLinked (b : Bool) (m : Module) (n : List ℕ) (j : ℕ) : Type 0 where
  holds : b ≡ true
  number : j ≡ node_of m n

link_is : (b : Bool) (m : Module) (n : List ℕ) (j : ℕ) → Contains (link_if b m n) j → IsLinked b m n j
link_is true m n j c = by (contains_split j (node_of m n) [] c)
  where
    by : (node_of m n ≡ j) ⊎ Contains {X = ℕ} [] j → IsLinked true m n j
    by (inl e) = record { holds = refl; number = sym e }
    by (inr c) = absurd (contains_none j c)
link_is false m n j c = absurd (contains_none j c)

link_made : (b : Bool) (m : Module) (n : List ℕ) (j : ℕ) → b ≡ true → j ≡ node_of m n → Contains (link_if b m n) j
link_made true m n j h e = contains_here j (node_of m n) [] (sym e)
link_made false m n j h e = absurd (cc h)

record LinkedUse (c : Scope) (us : List Use) (j : ℕ) : Type 0 where
  use_ : Use
  inside : Contains us use_
  links : Contains (use_links c use_) j

use_of : (c : Scope) (us : List Use) (j : ℕ) → Contains (uses_links c us) j → LinkedUse c us j
use_of c [] j h = absurd (contains_none j h)
use_of c (u ∷ us) j h = by (Contains-append_cases (use_links c u) (uses_links c us) j h) (use_of c us j)
  where
    by : Contains (use_links c u) j ⊎ Contains (uses_links c us) j → (Contains (uses_links c us) j → LinkedUse c us j) → LinkedUse c (u ∷ us) j
    by (inl l) rest = record { use_ = u; inside = contains_here u u us refl; links = l }
    by (inr l) rest = let r = rest l in record { use_ = r.use_; inside = contains_later r.use_ u us r.inside; links = r.links }

link_of_use : (c : Scope) (us : List Use) (u : Use) (j : ℕ) → Contains us u → Contains (use_links c u) j → Contains (uses_links c us) j
link_of_use c [] u j h l = absurd (contains_none u h)
link_of_use c (v ∷ us) u j h l = by (contains_split u v us h) (λ h. link_of_use c us u j h l)
  where
    by : (v ≡ u) ⊎ Contains us u → (Contains us u → Contains (uses_links c us) j) → Contains (uses_links c (v ∷ us)) j
    by (inl e) rest = Contains-append_left (use_links c v) (uses_links c us) j (subst (λ (w : Use). Contains (use_links c w) j) (sym e) l)
    by (inr h) rest = Contains-append_right (use_links c v) (uses_links c us) j (rest h)

record LinkedMember (m : Module) (ns : List (List ℕ)) (j : ℕ) : Type 0 where
  name : List ℕ
  inside : Contains ns name
  links : Contains (member_links m name) j

member_of : (m : Module) (ns : List (List ℕ)) (j : ℕ) → Contains (members_links m ns) j → LinkedMember m ns j
member_of m [] j h = absurd (contains_none j h)
member_of m (n ∷ ns) j h = by (Contains-append_cases (member_links m n) (members_links m ns) j h) (member_of m ns j)
  where
    by : Contains (member_links m n) j ⊎ Contains (members_links m ns) j → (Contains (members_links m ns) j → LinkedMember m ns j) → LinkedMember m (n ∷ ns) j
    by (inl l) rest = record { name = n; inside = contains_here n n ns refl; links = l }
    by (inr l) rest = let r = rest l in record { name = r.name; inside = contains_later r.name n ns r.inside; links = r.links }

link_of_member : (m : Module) (ns : List (List ℕ)) (n : List ℕ) (j : ℕ) → Contains ns n → Contains (member_links m n) j → Contains (members_links m ns) j
link_of_member m [] n j h l = absurd (contains_none n h)
link_of_member m (x ∷ ns) n j h l = by (contains_split n x ns h) (λ h. link_of_member m ns n j h l)
  where
    by : (x ≡ n) ⊎ Contains ns n → (Contains ns n → Contains (members_links m ns) j) → Contains (members_links m (x ∷ ns)) j
    by (inl e) rest = Contains-append_left (member_links m x) (members_links m ns) j (subst (λ z. Contains (member_links m z) j) (sym e) l)
    by (inr h) rest = Contains-append_right (member_links m x) (members_links m ns) j (rest h)

-- ---- what stands at a node

pub data Stands (m : Module) (i : ℕ) : Type 0 where
  a_function_there : (f : Function) → slice_get m.functions i ≡ Some f → IsReached m f → Stands m i
  a_table_there : (t : Table) (k : ℕ) → i ≡ length m.functions + k → slice_get m.tables k ≡ Some t → IsEntered m t → Stands m i

record TableNode (m : Module) (n : List ℕ) (t : Table) : Type 0 where
  place : ℕ
  number : node_of m n ≡ length m.functions + place
  there : slice_get m.tables place ≡ Some t

module _ (m : Module) (says : Says m) where
  distinct_nodes : Distinct (node_names m)
  distinct_nodes =
      let gs = map (λ (v : Variable). v.name) m.globals in
      let rest = distinct_parts m.params (gs ++ node_names m) says.distinct in
      let last = distinct_parts gs (node_names m) rest.1 in
      last.1

  pub function_node : (i : ℕ) (f : Function) → slice_get m.functions i ≡ Some f → node_of m f.name ≡ i
  function_node i f h = number_at (node_names m) i f.name distinct_nodes (left_at (function_names m) (table_names m) i f.name (mapped_at (λ (g : Function). g.name) m.functions i f h))

  pub table_node : (k : ℕ) (t : Table) → slice_get m.tables k ≡ Some t → node_of m t.name ≡ length m.functions + k
  table_node k t h =
      let long : length (function_names m) ≡ length m.functions = length-map m.functions (λ (g : Function). g.name) in
      let there : slice_get (node_names m) (length (function_names m) + k) ≡ Some t.name = right_at (function_names m) (table_names m) k t.name (mapped_at (λ (u : Table). u.name) m.tables k t h) in
      number_at (node_names m) (length m.functions + k) t.name distinct_nodes (subst (λ l. slice_get (node_names m) (l + k) ≡ Some t.name) long there)

  own_place : (f : Function) → Contains m.functions f → slice_get m.functions (node_of m f.name) ≡ Some f
  own_place f c = let p = placed m.functions f c in ap (slice_get m.functions) (function_node p.place f p.there) ∙ p.there

  meant_function : (n : List ℕ) (g : Function) → module_meaning m n ≡ a_function g → slice_get m.functions (node_of m n) ≡ Some g
  meant_function n g e = let at = function_at m n g e in subst (λ z. slice_get m.functions (node_of m z) ≡ Some g) at.name (own_place g at.inside)

  meant_table : (n : List ℕ) (t : Table) → module_meaning m n ≡ a_table t → TableNode m n t
  meant_table n t e =
      let at = table_at m n t e in
      let p = placed m.tables t at.inside in
      record { place = p.place; number = ap (node_of m) (sym at.name) ∙ table_node p.place t p.there; there = p.there }

  -- ---- where links stand

  function_slot : (i : ℕ) (f : Function) → slice_get m.functions i ≡ Some f → slice_get (module_links m) i ≡ Some (function_links m f)
  function_slot i f h = left_at (map (function_links m) m.functions) (map (table_links m) m.tables) i (function_links m f) (mapped_at (function_links m) m.functions i f h)

  table_slot : (k : ℕ) (t : Table) → slice_get m.tables k ≡ Some t → slice_get (module_links m) (length m.functions + k) ≡ Some (table_links m t)
  table_slot k t h =
      let long : length (map (function_links m) m.functions) ≡ length m.functions = length-map m.functions (function_links m) in
      subst (λ l. slice_get (module_links m) (l + k) ≡ Some (table_links m t)) long
      (right_at (map (function_links m) m.functions) (map (table_links m) m.tables) k (table_links m t) (mapped_at (table_links m) m.tables k t h))

  links_at : (i : ℕ) (ls : List ℕ) → slice_get (module_links m) i ≡ Some ls → get_or (module_links m) i [] ≡ ls
  links_at i ls h = get_or_from_slice_get (module_links m) i ls [] h

  -- ---- each node that is reached stands for what is reached

  stands_function : (n : List ℕ) (g : Function) (j : ℕ) → module_meaning m n ≡ a_function g → j ≡ node_of m n → IsReached m g → Stands m j
  stands_function n g j e is r = a_function_there g (ap (slice_get m.functions) is ∙ meant_function n g e) r

  stands_table : (n : List ℕ) (t : Table) (j : ℕ) → module_meaning m n ≡ a_table t → j ≡ node_of m n → IsEntered m t → Stands m j
  stands_table n t j e is x = let node = meant_table n t e in a_table_there t node.place (is ∙ node.number) node.there x

  from_use : (f : Function) (j : ℕ) (u : Use) → IsReached m f → Contains (stmts_uses f.body) u → Contains (use_links (scope_of m f) u) j → Stands m j
  from_use f j (of_variable n) r c l = absurd (contains_none j l)
  from_use f j (of_view n) r c l = absurd (contains_none j l)
  from_use f j (of_callee n) r c l =
      let link = link_is (is_function (named (scope_of m f) n)) m n j l in
      let g = means_function (named (scope_of m f) n) link.holds in
      stands_function n g.0 j (function_in_module m f n g.0 g.1) link.number (called n r c g.1)
  from_use f j (of_table n) r c l =
      let link = link_is (is_table (named (scope_of m f) n)) m n j l in
      let t = table_meant (named (scope_of m f) n) link.holds in
      stands_table n t.0 j (table_in_module m f n t.0 t.1) link.number (record { function = f; reached = r; name = n; used = c; means = t.1 })

  from_member : (t : Table) (j : ℕ) (x : List ℕ) → IsEntered m t → Contains t.members x → Contains (member_links m x) j → Stands m j
  from_member t j x h c l =
      let link = link_is (is_function (module_meaning m x)) m x j l in
      let g = means_function (module_meaning m x) link.holds in
      stands_function x g.0 j g.1 link.number (member h.name x t h.reached h.used h.means c g.1)

  from_node : (i j : ℕ) → Stands m i → Contains (get_or (module_links m) i []) j → Stands m j
  from_node i j (a_function_there f h r) c =
      let w = use_of (scope_of m f) (stmts_uses f.body) j (subst (λ ls. Contains ls j) (links_at i (function_links m f) (function_slot i f h)) c) in
      from_use f j w.use_ r w.inside w.links
  from_node i j (a_table_there t k e h x) c =
      let here : slice_get (module_links m) i ≡ Some (table_links m t) = ap (slice_get (module_links m)) e ∙ table_slot k t h in
      let w = member_of m t.members j (subst (λ ls. Contains ls j) (links_at i (table_links m t) here) c) in
      from_member t j w.name x w.inside w.links

  exported_there : (x : Exports) → AllByRecursion (MeansFunction m) (export_functions x) → (e : Exported) → Contains (exported_from m x) e → (g : Function) × (slice_get m.functions e.function ≡ Some g)
  exported_there (one f) all e c = by (contains_split e (exported_as m f f) [] c)
    where
      by : (exported_as m f f ≡ e) ⊎ Contains {X = Exported} [] e → (g : Function) × (slice_get m.functions e.function ≡ Some g)
      by (inl q) = let g = means_function (module_meaning m f) all.0 in (g.0, ap (λ (x : Exported). slice_get m.functions x.function) (sym q) ∙ (function_at m f g.0 g.1).number)
      by (inr c) = absurd (contains_none e c)
  exported_there (many es) all e c =
      let w = contains_of_map (λ (x : Export). exported_as m x.key x.function) es e c in
      let means = all_at (MeansFunction m) (map (λ (x : Export). x.function) es) w.0.function all (contains_map (λ (x : Export). x.function) es w.0 w.1) in
      let g = means_function (module_meaning m w.0.function) means in
      (g.0, ap (λ (x : Exported). slice_get m.functions x.function) (sym w.2) ∙ (function_at m w.0.function g.0 g.1).number)

  first_stands : (i : ℕ) → Contains (first_nodes m) i → Stands m i
  first_stands i c =
      let w = contains_of_map (λ (e : Exported). e.function) (exported_from m m.exports) i c in
      let g = exported_there m.exports says.exports w.0 w.1 in
      a_function_there g.0 (ap (slice_get m.functions) (sym w.2) ∙ g.1) (exported w.0 w.1 g.1)

  pub stands : (i : ℕ) → graph.IsReached (module_links m) (first_nodes m) i → Stands m i
  stands i (at_first j c low) = first_stands j c
  stands i (by_link j k r c low) = from_node j k (stands j r) c

  -- ---- what is reached has a node that is reached

  reached_inside : {f : Function} → IsReached m f → Contains m.functions f
  reached_inside (exported {f = f} e c h) = contains_at m.functions e.function f h
  reached_inside (called {f = f} {g = g} n r c e) = (function_at m n g (function_in_module m f n g e)).inside
  reached_inside (member {f = f} {g = g} n x t r c e d h) = (function_at m x g h).inside

  below : (i : ℕ) (ls : List ℕ) → slice_get (module_links m) i ≡ Some ls → i < length (module_links m)
  below i ls h = slice_get_within (module_links m) i ls h

  function_below : (f : Function) → Contains m.functions f → node_of m f.name < length (module_links m)
  function_below f c = below (node_of m f.name) (function_links m f) (function_slot (node_of m f.name) f (own_place f c))

  use_linked : (f : Function) (u : Use) (j : ℕ) → Contains m.functions f → Contains (stmts_uses f.body) u → Contains (use_links (scope_of m f) u) j → Contains (get_or (module_links m) (node_of m f.name) []) j
  use_linked f u j i c l =
      subst (λ ls. Contains ls j) (sym (links_at (node_of m f.name) (function_links m f) (function_slot (node_of m f.name) f (own_place f i))))
      (link_of_use (scope_of m f) (stmts_uses f.body) u j c l)

  table_reached : (f : Function) (n : List ℕ) (t : Table) → graph.IsReached (module_links m) (first_nodes m) (node_of m f.name) → Contains m.functions f → Contains (stmts_uses f.body) (of_table n) → named (scope_of m f) n ≡ a_table t
      → graph.IsReached (module_links m) (first_nodes m) (node_of m n)
  table_reached f n t r i c e =
      let node = meant_table n t (table_in_module m f n t e) in
      let here : slice_get (module_links m) (node_of m n) ≡ Some (table_links m t) = ap (slice_get (module_links m)) node.number ∙ table_slot node.place t node.there in
      by_link (node_of m f.name) (node_of m n) r (use_linked f (of_table n) (node_of m n) i c (link_made (is_table (named (scope_of m f) n)) m n (node_of m n) (ap is_table e) refl)) (below (node_of m n) (table_links m t) here)

  callee_reached : (f g : Function) (n : List ℕ) → graph.IsReached (module_links m) (first_nodes m) (node_of m f.name) → Contains m.functions f → Contains (stmts_uses f.body) (of_callee n) → named (scope_of m f) n ≡ a_function g
      → graph.IsReached (module_links m) (first_nodes m) (node_of m g.name)
  callee_reached f g n r i c e =
      let at = function_at m n g (function_in_module m f n g e) in
      by_link (node_of m f.name) (node_of m g.name) r (use_linked f (of_callee n) (node_of m g.name) i c (link_made (is_function (named (scope_of m f) n)) m n (node_of m g.name) (ap is_function e) (ap (node_of m) at.name))) (function_below g at.inside)

  member_reached : (g : Function) (n x : List ℕ) (t : Table) → graph.IsReached (module_links m) (first_nodes m) (node_of m n) → module_meaning m n ≡ a_table t → Contains t.members x → module_meaning m x ≡ a_function g
      → graph.IsReached (module_links m) (first_nodes m) (node_of m g.name)
  member_reached g n x t r e d h =
      let node = meant_table n t e in
      let here : slice_get (module_links m) (node_of m n) ≡ Some (table_links m t) = ap (slice_get (module_links m)) node.number ∙ table_slot node.place t node.there in
      let at = function_at m x g h in
      let link = link_of_member m t.members x (node_of m g.name) d (link_made (is_function (module_meaning m x)) m x (node_of m g.name) (ap is_function h) (ap (node_of m) at.name)) in
      by_link (node_of m n) (node_of m g.name) r (subst (λ ls. Contains ls (node_of m g.name)) (sym (links_at (node_of m n) (table_links m t) here)) link) (function_below g at.inside)

  pub node_reached : {f : Function} → IsReached m f → graph.IsReached (module_links m) (first_nodes m) (node_of m f.name)
  node_reached (exported {f = f} e c h) =
      let inside = contains_at m.functions e.function f h in
      at_first (node_of m f.name) (subst (Contains (first_nodes m)) (sym (function_node e.function f h)) (contains_map (λ (x : Exported). x.function) (exported_from m m.exports) e c)) (function_below f inside)
  node_reached (called {f = f} {g = g} n r c e) = callee_reached f g n (node_reached r) (reached_inside r) c e
  node_reached (member {f = f} {g = g} n x t r c e d h) = member_reached g n x t (table_reached f n t (node_reached r) (reached_inside r) c e) (table_in_module m f n t e) d h

  pub table_node_reached : (t : Table) → IsEntered m t → graph.IsReached (module_links m) (first_nodes m) (node_of m t.name)
  table_node_reached t h =
      let at = table_at m h.name t (table_in_module m h.function h.name t h.means) in
      subst (λ z. graph.IsReached (module_links m) (first_nodes m) (node_of m z)) (sym at.name) (table_reached h.function h.name t (node_reached h.reached) (reached_inside h.reached) h.used h.means)
