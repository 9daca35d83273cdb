mod Rebuilt
