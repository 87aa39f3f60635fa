-- Text on its way to a sink: the bytes that the sink has taken, and a page of bytes that it is given next.
use Rattle.std.specs.Prelude.{◌≡◌, ℕ, List, ◌++◌}
use Rattle.std.specs.declared.option.Option.{Option}
use Rattle.std.specs.Io.KnownBytes.{Appends}
use Rattle.next_io.specs.Output.{AppendsFront}

-- the page and then the text are what the sink has taken since, and then the new page
pub record Adds (old : Option (List ℕ)) (old_page : List ℕ) (new : Option (List ℕ)) (new_page : List ℕ) (text : List ℕ) : Type 0 where
  pub passed : List ℕ
  pub taken : Appends old new passed
  pub whole : old_page ++ text ≡ passed ++ new_page

-- the sink has taken a front of the page and the text
pub record AddsFront (old : Option (List ℕ)) (page : List ℕ) (new : Option (List ℕ)) (text : List ℕ) : Type 0 where
  pub front : AppendsFront old new (page ++ text)
