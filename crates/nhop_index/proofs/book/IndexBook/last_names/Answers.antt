use Rattle.std.proofs.Common.{ap, sym, ◌∙◌}
use Rattle.nhop_index.specs.Book.{names_in}
use Rattle.nhop_index.proofs.BookLemmas.{sorted_none}
use Rattle.nhop_index.proofs.book.IndexBook.last_names.Goals as goal

pub returns-in-None-clause-sorted : goal.returns-in-None-clause-sorted
returns-in-None-clause-sorted g c = sorted_none _ (ap (λ m. m.last) (sym c.self.view_is) ∙ ap names_in c.in-None.is)
