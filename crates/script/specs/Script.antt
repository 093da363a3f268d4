-- A script over several slips, in the words of their books.
--   book_call, book_answer   the call that a step asks for, and the answer that a reply tells
--   Reply          what a call answers: an answer, or a refusal
--   calls_on       the calls on one slip, with the answers that they got
--   LeadsEachSlip   for each slip, its calls lead from the book that it held to the book that it holds
--   LeadsEachFreshSlip   the same of fresh slips
--   LeavesReplies   where nothing was asked, a reply is as it was
--   workspace_left, workspace_after_call   the workspace after a search, and after any call
use Rattle.std.specs.List.{AllByRecursion}
use Rattle.std.specs.Prelude.{◌≡◌, ℕ, zero, suc, ◌<◌, ◌≤◌, cond, List, [], ◌∷◌, length, Ok, Err, Result, ◌==◌, slice_index_or}
use Rattle.book.specs.Book.{Book, fresh_book}
use Rattle.book.specs.Calls.{BookCall, write, blank, doubt, wipe, seal, solve, settle, done, refused, listed, BookAnswer}
use Rattle.algebra.specs.NumericCode.{NumericCode}
use Rattle.book.specs.Story.{Leads, IsStory}
use Rattle.book.specs.declared.code_fault.CodeFault.{CodeFault}
use Rattle.book.specs.declared.code_fault.CodeFault.TheVariants.{Short, Long, Records, Working, Doubts, Unfit}
use Rattle.book.specs.declared.call_fault.CallFault.{CallFault}
use Rattle.book.specs.declared.call_fault.CallFault.TheVariants.{Slip as of_slip, Code as of_code}
use Rattle.script.specs.declared.script.Answer.{Answer}
use Rattle.script.specs.declared.script.Answer.TheVariants.{Done, Listed}
use Rattle.script.specs.declared.script.Call.{Call}
use Rattle.script.specs.declared.script.Call.TheVariants.{Write, Blank, Doubt, Wipe, Seal, Solve, Settle}
use Rattle.script.specs.declared.script.Step.{Step}

abbrev pub book_call : {K : Type 0} → (K → NumericCode) → Call K → BookCall
book_call codes (Write v) = write v
book_call codes Blank = blank
book_call codes (Doubt place) = doubt place
book_call codes Wipe = wipe
book_call codes (Seal k) = seal (codes k)
book_call codes (Solve k lent) = solve (codes k) lent.records lent.working
book_call codes (Settle k lent) = settle (codes k) lent.records lent.working

abbrev pub Reply : Type 0
Reply = Result Answer CallFault

abbrev pub book_answer : Reply → BookAnswer
book_answer (Ok Done) = done
book_answer (Ok (Listed l)) = listed l.records (length l.records) l.nonzero
book_answer (Err fault) = refused fault

-- steps and replies side by side, as far as there are both; only those of slip i
abbrev pub calls_on : {K : Type 0} → (K → NumericCode) → ℕ → List (Step K) → List Reply → List (BookCall × BookAnswer)
calls_on codes i [] rs = []
calls_on codes i (t ∷ ts) [] = []
calls_on codes i (t ∷ ts) (r ∷ rs) = cond (t.slip == i) ((book_call codes t.call, book_answer r) ∷ calls_on codes i ts rs) (calls_on codes i ts rs)

abbrev pub LeadsEachSlip : {K : Type 0} → (K → NumericCode) → List Book → List (Step K) → List Reply → List Book → Type 0
LeadsEachSlip codes before ts rs after = (i : ℕ) → i < length before → Leads (slice_index_or before i fresh_book) (calls_on codes i ts rs) (slice_index_or after i fresh_book)

abbrev pub LeadsEachFreshSlip : {K : Type 0} → (K → NumericCode) → List Book → List (Step K) → List Reply → List Book → Type 0
LeadsEachFreshSlip codes before ts rs after = AllByRecursion (λ b. b ≡ fresh_book) before → (i : ℕ) → i < length before → IsStory (calls_on codes i ts rs) (slice_index_or after i fresh_book)

-- nothing was asked at place j: it lies past the steps, or its step names none of the m slips
abbrev pub IsUncalled : {K : Type 0} → ℕ → List (Step K) → ℕ → Type 0
IsUncalled m [] j = Unit {0}
IsUncalled m (t ∷ ts) zero = m ≤ t.slip
IsUncalled m (t ∷ ts) (suc j) = IsUncalled m ts j

abbrev pub LeavesReplies : {K : Type 0} → ℕ → List (Step K) → List Reply → List Reply → Type 0
LeavesReplies m ts was is = (j : ℕ) (default : Reply) → IsUncalled m ts j → slice_index_or is j default ≡ slice_index_or was j default

-- a workspace after a search: cleared, unless a reason to refuse came before it
abbrev pub workspace_after_fault : {W : Type 0} → (W → W) → CodeFault → W → W
workspace_after_fault cleared Short space = space
workspace_after_fault cleared Long space = space
workspace_after_fault cleared Records space = space
workspace_after_fault cleared Working space = space
workspace_after_fault cleared Doubts space = space
workspace_after_fault cleared Unfit space = cleared space

abbrev pub workspace_left : {X W : Type 0} → (W → W) → Result X CodeFault → W → W
workspace_left cleared (Ok found) space = cleared space
workspace_left cleared (Err fault) space = workspace_after_fault cleared fault space

abbrev pub workspace_after_reply : {W : Type 0} → (W → W) → Reply → W → W
workspace_after_reply cleared (Ok answer) space = cleared space
workspace_after_reply cleared (Err (of_slip fault)) space = space
workspace_after_reply cleared (Err (of_code fault)) space = workspace_after_fault cleared fault space

-- and after any call: only a search works in it
abbrev pub workspace_after_call : {K W : Type 0} → (K → ℕ → W → W) → Call K → Reply → W → W
workspace_after_call cleared (Write v) reply space = space
workspace_after_call cleared Blank reply space = space
workspace_after_call cleared (Doubt place) reply space = space
workspace_after_call cleared Wipe reply space = space
workspace_after_call cleared (Seal k) reply space = space
workspace_after_call cleared (Solve k lent) reply space = workspace_after_reply (cleared k lent.working) reply space
workspace_after_call cleared (Settle k lent) reply space = workspace_after_reply (cleared k lent.working) reply space
