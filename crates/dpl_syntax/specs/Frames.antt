-- A frame without where its records lie in memory.
use Rattle.dpl_spec_format.specs.Tree as tree
use Rattle.dpl_syntax.specs.declared.library.Frame.{Frame}

abbrev pub frame_seen : Frame → tree.Frame
frame_seen f = record {
  header = f.header.now;
  bgnlib = f.bgnlib.now;
  libname = f.libname.now;
  units = f.units.now;
  bgnstr = f.bgnstr.now;
  strname = f.strname.now;
}
