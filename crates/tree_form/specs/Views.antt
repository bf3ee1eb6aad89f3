-- What readers of a tree find, without where it stands in memory.
use Rattle.tree_form.specs.declared.heads.Entry as found
use Rattle.tree_form.specs.Forms.{Entry}

abbrev pub seen : found.Entry → Entry
seen e = record { name = e.name.now; parameter = e.parameter.now; group = e.group; statements = e.statements.now }
