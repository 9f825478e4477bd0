-- The six sections of a book as its counts give them. Assumes nothing.
use Rattle.book.specs.Layout.{Spans, places_at, order_at, border_offsets_at, border_entries_at, district_offsets_at, district_entries_at}
use Rattle.book.specs.declared.counts.Counts.{Counts}
use Rattle.book.specs.declared.names.Names.{Names}
use Rattle.book.specs.declared.names.Names.TheVariants.{Ranks, Hubs}
use Rattle.book.specs.declared.sections.Sections.{Sections}
use Rattle.book.specs.declared.span.Span.{Span}

-- the spans are the six sections of a book with these counts
pub record HasSections (c : Counts) (x : Sections) : Type 0 where
  pub places : Spans (places_at c) c.words x.places
  pub order : Spans (order_at c) c.words x.order
  pub border_offsets : Spans (border_offsets_at c) c.words x.border_offsets
  pub border_entries : Spans (border_entries_at c) c.words x.border_entries
  pub district_offsets : Spans (district_offsets_at c) c.words x.district_offsets
  pub district_entries : Spans (district_entries_at c) c.words x.district_entries

-- the offsets and the entries of the rows of one kind
abbrev pub offsets_of : Sections → Names → Span
offsets_of x Ranks = x.border_offsets
offsets_of x Hubs = x.district_offsets

abbrev pub entries_of : Sections → Names → Span
entries_of x Ranks = x.border_entries
entries_of x Hubs = x.district_entries
