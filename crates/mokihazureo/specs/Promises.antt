-- Each call leaves one status, one answer and one content of every lent buffer: its promise is an equation with a definition.
use Rattle.std.specs.Prelude.{◌≡◌, List, ℕ, ℤ}
use Rattle.words.specs.Outcomes.{only_one, outcome, Same, same}
use Rattle.formula.specs.Limits.{limits}
use Rattle.formula.specs.Block.{refusal}
use Rattle.session.specs.declared.Session.{Session}
use Rattle.record.specs.Trail.{Trail}
use Rattle.memory.specs.Memory.{Memory}
use Rattle.counted.specs.Lent as counted
use Rattle.counted.specs.Promises.{used}
use Rattle.listing.specs.Page.{PageMemory}
use Rattle.text.specs.Pieces.{begun}
use Rattle.saved.specs.Numbers.{written}
use Rattle.mokihazureo.specs.Called.{Lent, lent, revision, open_call, step_call, run_call, counted_call, page_call, shown_call, plain_call, write_call}
use Rattle.mokihazureo.specs.Reading.{read_call, piece_call, end_call}

-- ---- the promises
abbrev pub CheckPromise : List ℤ → ℕ → Type 0
CheckPromise b r = r ≡ refusal limits b

abbrev pub OpenPromise : List ℤ → Memory → ℕ → List ℕ → ℕ → Lent Memory → Type 0
OpenPromise b m first a r left = outcome r left ≡ open_call limits b m first a

abbrev pub StepPromise : Session → List ℤ → Memory → ℕ → ℤ → List ℕ → ℕ → Lent Memory → Type 0
StepPromise s b m seen l a r left = outcome r left ≡ step_call limits s b m seen l a

abbrev pub RunPromise : Session → List ℤ → Memory → ℕ → ℕ → List ℤ → List ℕ → ℕ → Lent Memory → Type 0
RunPromise s b m seen budget preferred a r left = outcome r left ≡ run_call limits s b m seen budget preferred a

-- [calls.counted] [counted.index] of the index what is not the call's own
abbrev pub CountedPromise : Session → List ℤ → counted.Lent → ℕ → ℕ → List ℤ → List ℕ → ℕ → counted.Lent → List ℕ → Type 0
CountedPromise s b w seen budget preferred a r w' a' = outcome r (lent (counted.past (used s b w (revision seen) budget) w') a') ≡ counted_call limits s b w seen budget preferred a

abbrev pub PagePromise : List ℤ → PageMemory → ℕ → List ℤ → ℕ → List ℕ → ℕ → Lent PageMemory → Type 0
PagePromise b m start preferred budget a r left = outcome r left ≡ page_call limits b m start preferred budget a

abbrev pub ShownPromise : Session → List ℤ → Trail → List ℤ → List ℕ → ℕ → Lent (List ℤ) → Type 0
ShownPromise s b t o a r left = outcome r left ≡ shown_call limits s b t o a

abbrev pub PlainPromise : List ℤ → List ℕ → ℕ → List ℕ → Type 0
PlainPromise b a r left = outcome r left ≡ plain_call limits b a

-- [calls.read] [calls.pieces] bs are bytes, o is the output, s the array of the reader's numbers
abbrev pub ReadPromise : List ℕ → List ℤ → List ℕ → ℕ → Lent (List ℤ) → Type 0
ReadPromise bs o a r left = outcome r left ≡ read_call limits bs o a

abbrev pub BeginPromise : List ℕ → List ℕ → Type 0
BeginPromise s left = left ≡ written begun s

abbrev pub PiecePromise : List ℕ → List ℕ → List ℤ → Lent (List ℤ) → Type 0
PiecePromise s bs o left = left ≡ piece_call s bs o

abbrev pub EndPromise : List ℕ → List ℤ → List ℕ → ℕ → Lent (List ℤ) → Type 0
EndPromise s o a r left = outcome r left ≡ end_call limits s o a

-- [calls.write]
abbrev pub WritePromise : List ℤ → List ℕ → List ℕ → ℕ → Lent (List ℕ) → Type 0
WritePromise b o a r left = outcome r left ≡ write_call limits b o a

-- ---- each leaves one result
pub only_check : (b : List ℤ) (r r' : ℕ) → CheckPromise b r → CheckPromise b r' → r ≡ r'
only_check b r r' = only_one

module _ (r r' : ℕ) (left left' : Lent Memory) (b : List ℤ) (m : Memory) (a : List ℕ) where
  pub only_open : (first : ℕ) → OpenPromise b m first a r left → OpenPromise b m first a r' left' → Same r r' left left'
  only_open first = same

  pub only_step : (s : Session) (seen : ℕ) (l : ℤ) → StepPromise s b m seen l a r left → StepPromise s b m seen l a r' left' → Same r r' left left'
  only_step s seen l = same

  pub only_run : (s : Session) (seen budget : ℕ) (preferred : List ℤ) → RunPromise s b m seen budget preferred a r left → RunPromise s b m seen budget preferred a r' left' → Same r r' left left'
  only_run s seen budget preferred = same

pub only_counted : (r r' : ℕ) (w' w'' : counted.Lent) (a' a'' : List ℕ) (s : Session) (b : List ℤ) (w : counted.Lent) (seen budget : ℕ) (preferred : List ℤ) (a : List ℕ)
    → CountedPromise s b w seen budget preferred a r w' a' → CountedPromise s b w seen budget preferred a r' w'' a''
    → let n = used s b w (revision seen) budget in Same r r' (lent (counted.past n w') a') (lent (counted.past n w'') a'')
only_counted r r' w' w'' a' a'' s b w seen budget preferred a = same

pub only_page : (r r' : ℕ) (left left' : Lent PageMemory) (b : List ℤ) (m : PageMemory) (start : ℕ) (preferred : List ℤ) (budget : ℕ) (a : List ℕ)
    → PagePromise b m start preferred budget a r left → PagePromise b m start preferred budget a r' left' → Same r r' left left'
only_page r r' left left' b m start preferred budget a = same

pub only_shown : (r r' : ℕ) (left left' : Lent (List ℤ)) (s : Session) (b : List ℤ) (t : Trail) (o : List ℤ) (a : List ℕ) → ShownPromise s b t o a r left → ShownPromise s b t o a r' left' → Same r r' left left'
only_shown r r' left left' s b t o a = same

pub only_plain : (r r' : ℕ) (left left' : List ℕ) (b : List ℤ) (a : List ℕ) → PlainPromise b a r left → PlainPromise b a r' left' → Same r r' left left'
only_plain r r' left left' b a = same

pub only_begin : (s left left' : List ℕ) → BeginPromise s left → BeginPromise s left' → left ≡ left'
only_begin s left left' = only_one

module _ (left left' : Lent (List ℤ)) (o : List ℤ) where
  pub only_piece : (s bs : List ℕ) → PiecePromise s bs o left → PiecePromise s bs o left' → left ≡ left'
  only_piece s bs = only_one

  pub only_read : (r r' : ℕ) (bs a : List ℕ) → ReadPromise bs o a r left → ReadPromise bs o a r' left' → Same r r' left left'
  only_read r r' bs a = same

  pub only_end : (r r' : ℕ) (s a : List ℕ) → EndPromise s o a r left → EndPromise s o a r' left' → Same r r' left left'
  only_end r r' s a = same

pub only_write : (r r' : ℕ) (left left' : Lent (List ℕ)) (b : List ℤ) (o a : List ℕ) → WritePromise b o a r left → WritePromise b o a r' left' → Same r r' left left'
only_write r r' left left' b o a = same
