-- What holds of every code holds of the codes of a lawful set.
use Rattle.std.proofs.Common.{ℕ, Ok, Err}
use Rattle.algebra.specs.NumericCode.{NumericCode}
use Rattle.book.specs.Codes.{IsLawful}
use Rattle.book.proofs.Same.{same, Named}
use Rattle.book.specs.Calls.{IsDecided}
use Rattle.book.specs.declared.call_fault.CallFault.TheVariants.{Slip as of_slip, Code as of_code}
use Rattle.book.specs.declared.code_fault.CodeFault.{CodeFault}
use Rattle.book.specs.declared.code_fault.CodeFault.TheVariants.{Short, Long, Records, Working, Doubts, Unfit}
use Rattle.script.specs.Script.{book_call, Reply, workspace_after_call, workspace_after_fault, workspace_after_reply}
use Rattle.script.specs.declared.script.Call.{Call}
use Rattle.script.specs.declared.script.Call.TheVariants.{Write, Blank, Doubt, Wipe, Seal, Solve, Settle}

module _ {K : Type 0} (codes : K → NumericCode) (law : (k : K) → IsLawful (codes k)) where
  named : (call : Call K) → Named (book_call codes call)
  named (Write v) = tt
  named Blank = tt
  named (Doubt place) = tt
  named Wipe = tt
  named (Seal k) = law k
  named (Solve k lent) = law k
  named (Settle k lent) = law k

  pub decided : (call : Call K) → IsDecided (book_call codes call)
  decided call b a a' next next' f g = same (named call) f g

-- a call leaves a clear workspace clear
module _ {K W : Type 0} (clear : W → Type 0) (cleared : K → ℕ → W → W) (stays : (k : K) (w : ℕ) (space : W) → clear space → clear (cleared k w space)) where
  after_fault : (k : K) (w : ℕ) (fault : CodeFault) (space : W) → clear space → clear (workspace_after_fault (cleared k w) fault space)
  after_fault k w Short space h = h
  after_fault k w Long space h = h
  after_fault k w Records space h = h
  after_fault k w Working space h = h
  after_fault k w Doubts space h = h
  after_fault k w Unfit space h = stays k w space h

  after_reply : (k : K) (w : ℕ) (reply : Reply) (space : W) → clear space → clear (workspace_after_reply (cleared k w) reply space)
  after_reply k w (Ok answer) space h = stays k w space h
  after_reply k w (Err (of_slip fault)) space h = h
  after_reply k w (Err (of_code fault)) space h = after_fault k w fault space h

  pub clear_after_call : (call : Call K) (reply : Reply) (space : W) → clear space → clear (workspace_after_call cleared call reply space)
  clear_after_call (Write v) reply space h = h
  clear_after_call Blank reply space h = h
  clear_after_call (Doubt place) reply space h = h
  clear_after_call Wipe reply space h = h
  clear_after_call (Seal k) reply space h = h
  clear_after_call (Solve k lent) reply space h = after_reply k lent.working reply space h
  clear_after_call (Settle k lent) reply space h = after_reply k lent.working reply space h
