-- Calls on readers of lines, put together.
use Rattle.std.proofs.Common.{List, [], ◌∷◌, ◌++◌}
use Rattle.std.specs.List.{AllByRecursion}
use Rattle.abc_outside.specs.Lines.{Called, Failed}

all_for : {L : Type 0} (P Q : L → Type 0) (called : List L) → ((l : L) → P l → Q l) → AllByRecursion P called → AllByRecursion Q called
all_for P Q [] goes all = tt
all_for P Q (l ∷ called) goes all = (goes l all.0, all_for P Q called goes all.1)

all_then : {L : Type 0} (P : L → Type 0) (xs ys : List L) → AllByRecursion P xs → AllByRecursion P ys → AllByRecursion P (xs ++ ys)
all_then P [] ys some more = more
all_then P (x ∷ xs) ys some more = (some.0, all_then P xs ys some.1 more)

module _ {L : Type 0} (leads : List L → L → L → Type 0) where
  -- none was made
  pub called_none : (P : L → Type 0) (l : L) → leads [] l l → Called leads P l l
  called_none P l is = record { called = []; each = tt; reads_on = is }

  -- one was made
  pub called_once : (P : L → Type 0) (old new : L) → leads (old ∷ []) old new → P old → Called leads P old new
  called_once P old new is asks = record { called = old ∷ []; each = (asks, tt); reads_on = is }

  -- those on readers with one property, where that tells another
  pub called_for : (P Q : L → Type 0) (old new : L) → ((l : L) → P l → Q l) → Called leads P old new → Called leads Q old new
  called_for P Q old new goes calls = record { called = calls.called; each = all_for P Q calls.called goes calls.each; reads_on = calls.reads_on }

  -- some, and then some more
  pub called_then : (P : L → Type 0) → ((xs ys : List L) (first later last : L) → leads xs first later → leads ys later last → leads (xs ++ ys) first last) → (first later last : L)
      → Called leads P first later → Called leads P later last → Called leads P first last
  called_then P reads_on_later first later last some more =
      record {
        called = some.called ++ more.called;
        each = all_then P some.called more.called some.each more.each;
        reads_on = reads_on_later some.called more.called first later last some.reads_on more.reads_on;
      }

-- a call that failed, where one property of its reader tells another
pub failed_for : {L : Type 0} (leaves : L → L → Type 0) (P Q : L → Type 0) (new : L) → ((l : L) → P l → Q l) → Failed leaves P new → Failed leaves Q new
failed_for leaves P Q new goes failed = record { there = failed.there; asks = goes failed.there failed.asks; is = failed.is }
