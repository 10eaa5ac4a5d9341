-- What the linked module does for one reduction of a pair, from a configuration that stands for the pair's.
use Rattle.std.specs.Prelude.{◌≡◌, ℕ, suc, ◌+◌, ◌≤◌, List, ◌++◌, length, Some, slice_get}
use Rattle.sem_words.specs.declared.word.Word.{Word}
use Rattle.wasm_lang.specs.Modules.{WasmModule}
use Rattle.wasm_lang_exec.specs.Store.{Store}
use Rattle.wasm_lang_exec.specs.Reductions.{Config, Reduct, to, is_values, branches, returns, stops, is_stuck}
use Rattle.wasm_laws_drive.specs.Drive.{Outcome, Next, Branch, Leave, Ended, Stuck, at, drive}
use Rattle.wasm_link_lang.specs.Pairs.{Pair}
use Rattle.wasm_link_lang.specs.Reductions.{entries}
use Rattle.wasm_link_laws_sessions.specs.Alike.{IsFunction, store_of, IsAlike}

module _ (w : Pair) (m : WasmModule) (g : ℕ) (order : List Word → List Word) where
  -- there are all globals, and the table has the functions of the pair
  abbrev pub Holds : Store → Type 0
  Holds s = (length s.globals ≡ g) × (length s.table ≡ entries w.first + entries w.second) × ((i a : ℕ) → slice_get s.table i ≡ Some (Some a) → IsFunction w a)

  -- a reduction of the pair to a configuration takes one to six of the module, to one that stands for it, over as much room
  pub record Goes (c' : Config) (locals room : List Word) (s : Store) (c1 : Config) (locals1 : List Word) (s1 : Store) : Type 0 where
    pub cost : ℕ
    pub some : 1 ≤ cost
    pub few : cost ≤ 6
    pub config : Config
    pub rest : List Word
    pub many : length locals1 ≡ length locals
    pub room_stays : length rest ≡ length room
    pub holds : Holds s1
    pub alike : IsAlike w g c1 (length locals) (length room) config
    pub takes : (n : ℕ) → drive m (cost + n) c' (locals ++ room) (store_of w order s) ≡ drive m n config (locals1 ++ rest) (store_of w order s1)

  -- this comes after at most six reductions
  pub record Ends (c' : Config) (locals room : List Word) (s : Store) (o : Outcome) : Type 0 where
    pub cost : ℕ
    pub few : cost ≤ 6
    pub ends : (n : ℕ) → drive m (cost + n) c' (locals ++ room) (store_of w order s) ≡ o

  -- .. by what the reduction comes to: values and jumps are the same
  abbrev pub Follows : Reduct → Config → (locals room : List Word) → Store → Type 0
  Follows (to c1 locals1 s1) c' locals room s = Goes c' locals room s c1 locals1 s1
  Follows (is_values vs) c' locals room s = (n : ℕ) → drive m n c' (locals ++ room) (store_of w order s) ≡ Next (at vs (locals ++ room) (store_of w order s) n)
  Follows (branches j vs) c' locals room s = (n : ℕ) → drive m (suc n) c' (locals ++ room) (store_of w order s) ≡ Branch j (at vs (locals ++ room) (store_of w order s) n)
  Follows (returns vs) c' locals room s = (n : ℕ) → drive m (suc n) c' (locals ++ room) (store_of w order s) ≡ Leave (at vs (locals ++ room) (store_of w order s) n)
  Follows (stops e s1) c' locals room s = Ends c' locals room s (Ended e (store_of w order s1))
  Follows is_stuck c' locals room s = Ends c' locals room s (Stuck (store_of w order s))
