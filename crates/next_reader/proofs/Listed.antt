-- What a listed answer tells of its counts.
use Rattle.std.proofs.Common.{◌≡◌, true, refl}
use Rattle.next_ids.specs.declared.attributes.DirAttr.{DirAttr}
use Rattle.next_steps.specs.declared.ask.Ask.{Ask}
use Rattle.next_steps.specs.declared.ask.Ask.TheVariants as ask
use Rattle.next_steps.specs.declared.answer.Answer.{Answer}
use Rattle.next_steps.specs.declared.answer.Answer.TheVariants.{Attr}
use Rattle.next_steps.specs.Answers.{lists, are_counts}
use Rattle.next_reader.specs.Readers.{has_counts}

-- only a Look is answered with counts
counts : (a : Ask) (attr : DirAttr) → lists a (Attr attr) ≡ true → are_counts attr ≡ true
counts (ask.Look dir back) attr e = e
counts _ attr e = absurd (cc)

pub listed-counts : (a : Ask) (b : Answer) → lists a b ≡ true → has_counts b ≡ true
listed-counts a (Attr attr) e = counts a attr e
listed-counts a _ e = refl
