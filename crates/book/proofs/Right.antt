-- The law of the book. Assumes nothing.
use Rattle.book.specs.Book.{empty}
use Rattle.book.specs.Runs.{after}
use Rattle.book.specs.Promise.{BooksRight}
use Rattle.book.proofs.After.{verdicts_right, sound_after, sound_empty, refused_when}

pub books_right : BooksRight
books_right = record {
  verdicts = λ admitted room es told c. verdicts_right (after admitted room empty es) c (sound_after admitted room empty es told sound_empty);
  refusals = λ admitted room es told. refused_when admitted room empty es told;
}
