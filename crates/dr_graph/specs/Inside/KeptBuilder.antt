-- What a builder keeps, and what contracts see of it.
use Rattle.dr_graph.specs.declared.builder.GraphBuilder.TheInside.{Inside}
use Rattle.dr_graph.specs.Meaning.Name.{texts}
use Rattle.dr_graph.specs.Meaning.Declaration.{Declaration, IsDeclaration}

abbrev pub declaration_of : Inside → Declaration
declaration_of a = record { names = texts a.names.keys; edges = a.edges.items }

abbrev pub IsKeptBuilder : Inside → Type 0
IsKeptBuilder a = IsDeclaration (declaration_of a)
