-- An element without where its parts lie in memory.
use Rattle.std.specs.Prelude.{}
use Rattle.std.specs.Option.{option_map}
use Rattle.dpl_spec_format.specs.Tree as tree
use Rattle.dpl_syntax.specs.declared.element.Trans.{Trans}
use Rattle.dpl_syntax.specs.declared.element.Body.{Body}
use Rattle.dpl_syntax.specs.declared.element.Body.TheVariants.{Boundary, Path, Sref, Aref, Text, Node, BoxShape}
use Rattle.dpl_syntax.specs.declared.element.Element.{Element}

abbrev pub trans_seen : Trans → tree.Trans
trans_seen t = record { strans = t.strans; mag = t.mag; angle = t.angle }

abbrev pub body_seen : Body → tree.Body
body_seen (Boundary layer datatype xy) = tree.is_boundary (record { layer = layer; datatype = datatype; xy = xy.now })
body_seen (Path layer datatype kind width begin_ext end_ext xy) = tree.is_path (record {
  layer = layer;
  datatype = datatype;
  kind = kind;
  width = width;
  begin_ext = begin_ext;
  end_ext = end_ext;
  xy = xy.now;
})
body_seen (Sref name trans xy) = tree.is_sref (record { name = name.now; trans = option_map trans_seen trans; xy = xy.now })
body_seen (Aref name trans columns rows xy) = tree.is_aref (record {
  name = name.now;
  trans = option_map trans_seen trans;
  columns = columns;
  rows = rows;
  xy = xy.now;
})
body_seen (Text layer texttype xy string) = tree.is_text (record { layer = layer; texttype = texttype; xy = xy.now; string = string.now })
body_seen (Node layer nodetype xy) = tree.is_node (record { layer = layer; nodetype = nodetype; xy = xy.now })
body_seen (BoxShape layer boxtype xy) = tree.is_box (record { layer = layer; boxtype = boxtype; xy = xy.now })

abbrev pub element_seen : Element → tree.Element
element_seen e = record { at = e.at; body = body_seen e.body }

-- the points are as many as the element has
abbrev pub IsSized : Element → Type 0
IsSized e = tree.HasPoints (body_seen e.body)
