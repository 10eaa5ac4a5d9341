-- All that an accepted module does by its code: expressions, statements and calls.
use Rattle.std.proofs.Common.{◌≡◌, ℕ, ◌≤◌, true, [], arith}
use Rattle.std.proofs.lemmas.Bool.{and_parts}
use Rattle.heap_lang.specs.Heap.{IsHeapLength}
use Rattle.asm_lang.specs.Modules.{Function}
use Rattle.asm_lang_valid.specs.Refusal.{has_heap}
use Rattle.asm_lang_valid.specs.Typing.{at_top}
use Rattle.asm_lang_exec.specs.Meaning.{call_at}
use Rattle.asm_laws_sound.proofs.Members.{Typed, accepted_is_typed, function_at}
use Rattle.asm_run_code.specs.Names.{first_free}
use Rattle.asm_run_code.specs.Modules.{codes_of}
use Rattle.asm_run_laws.specs.Frames.{Setting, OwnDone}
use Rattle.asm_run_laws.specs.Laws.{ExpressionsDo, StatementsDo, CallsDo, HostCallsDo}
use Rattle.asm_run_laws.proofs.Made.{is_made}
use Rattle.asm_run_laws.proofs.Evaluated.{value_done}
use Rattle.asm_run_laws.proofs.Executed.{stmt_done, stmts_done}
use Rattle.asm_run_laws.proofs.Functions.{BodiesDo, own_done}
use Rattle.asm_run_laws.proofs.Hosted.{host_done}

module _ (s : Setting) (codes_are : s.codes ≡ codes_of s.home) (long : has_heap s.home ≡ true → IsHeapLength s.heap) (ok : Typed s.home) where
  bodies_do : BodiesDo s codes_are
  bodies_do bound owned y n stands f =
      let typed = (and_parts _ _ (function_at s.home ok n y.within stands)).1 in
      stmts_done s y f bound (call_at true s.home bound) owned (is_made s codes_are) long ok y.within.body at_top [] (first_free y.within) typed (le y.within)
    where
      le : (f : Function) → first_free f ≤ first_free f
      le f = omega arith

  own_calls_do : (bound : ℕ) → OwnDone s bound (call_at true s.home bound)
  own_calls_do bound = own_done s codes_are bodies_do bound

pub calls_do : CallsDo
calls_do s i = own_calls_do s i.codes_are i.long (accepted_is_typed s.home i.accepted)

pub expressions_do : ExpressionsDo
expressions_do s i x f bound e wanted t d is room = value_done s x f bound (call_at true s.home bound) (calls_do s i bound) (is_made s i.codes_are) i.long (accepted_is_typed s.home i.accepted) e wanted t d is room

pub statements_do : StatementsDo
statements_do s i x f bound t a around own d typed room = stmt_done s x f bound (call_at true s.home bound) (calls_do s i bound) (is_made s i.codes_are) i.long (accepted_is_typed s.home i.accepted) t a around own d typed room

pub host_calls_do : HostCallsDo
host_calls_do s i bound n g vs t p stands many holds few =
    host_done s i.codes_are (bodies_do s i.codes_are i.long (accepted_is_typed s.home i.accepted)) g n stands bound (calls_do s i) vs many t p holds few
